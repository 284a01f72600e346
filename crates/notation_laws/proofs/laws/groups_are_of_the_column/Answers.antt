use Rattle.notation_laws.proofs.ColumnGroups.{groups_of_columns}
use Rattle.notation_laws.proofs.laws.groups_are_of_the_column.Goals as goal

pub returns : goal.returns
returns c = groups_of_columns
