use Rattle.barline_follow.proofs.OneBest.{one_answer}
use Rattle.barline_follow.proofs.laws.answers_are_one.Goals as goal

pub returns : goal.returns
returns c = one_answer
