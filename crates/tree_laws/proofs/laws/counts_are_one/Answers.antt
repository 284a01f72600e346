use Rattle.tree_laws.proofs.Cells.{one_pair}
use Rattle.tree_laws.proofs.laws.counts_are_one.Goals as goal

pub returns : goal.returns
returns c = one_pair
