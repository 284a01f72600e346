use Rattle.edit_laws.proofs.OneReached.{one_reached}
use Rattle.edit_laws.proofs.laws.reached_cells_are_one.Goals as goal

pub returns : goal.returns
returns c = one_reached
