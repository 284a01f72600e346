use Rattle.barline_follow.proofs.Gaining.{answers_gain}
use Rattle.barline_follow.proofs.laws.answers_gain.Goals as goal

pub returns : goal.returns
returns c = answers_gain
