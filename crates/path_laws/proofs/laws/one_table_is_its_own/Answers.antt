use Rattle.path_laws.proofs.PathTables.{table_single}
use Rattle.path_laws.proofs.laws.one_table_is_its_own.Goals as goal

pub returns : goal.returns
returns c = table_single
