use Rattle.hand_borders.proofs.FirstLeast.{are_one}
use Rattle.hand_borders.proofs.laws.least_borders_are_one.Goals as goal

pub returns : goal.returns
returns c = are_one
