use Rattle.barline_follow.proofs.FewReached.{few}
use Rattle.barline_follow.proofs.laws.few_are_reached.Goals as goal

pub returns : goal.returns
returns c = few
