use Rattle.barline_follow.proofs.OneBest.{one_best}
use Rattle.barline_follow.proofs.laws.bests_are_one.Goals as goal

pub returns : goal.returns
returns c = one_best
