use Rattle.kern_laws.proofs.LeastGrids.{grids_are_least}
use Rattle.kern_laws.proofs.laws.grids_are_least.Goals as goal

pub returns : goal.returns
returns c = grids_are_least
