use Rattle.hand_borders.proofs.FirstLeast.{are_least}
use Rattle.hand_borders.proofs.laws.least_borders_are_least.Goals as goal

pub returns : goal.returns
returns c = are_least
