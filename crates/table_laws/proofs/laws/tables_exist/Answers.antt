use Rattle.least_cost.proofs.Tables.{some_table}
use Rattle.table_laws.proofs.laws.tables_exist.Goals as goal

pub returns : goal.returns
returns c = some_table
