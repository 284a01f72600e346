use Rattle.path_laws.proofs.PathTables.{table_append}
use Rattle.path_laws.proofs.laws.tables_multiply.Goals as goal

pub returns : goal.returns
returns c = table_append
