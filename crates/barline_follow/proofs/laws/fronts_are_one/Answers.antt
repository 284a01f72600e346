use Rattle.barline_follow.proofs.OneAnswers.{one_front}
use Rattle.barline_follow.proofs.laws.fronts_are_one.Goals as goal

pub returns : goal.returns
returns c = one_front
