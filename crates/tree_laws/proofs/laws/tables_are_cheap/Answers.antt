use Rattle.tree_laws.proofs.CheapTables.{table_cheap}
use Rattle.tree_laws.proofs.laws.tables_are_cheap.Goals as goal

pub returns : goal.returns
returns c = table_cheap
