use Rattle.path_laws.proofs.PathTables.{identity_left, identity_right}
use Rattle.carry_matrix.proofs.laws.identity_is_neutral.Goals as goal

pub returns : goal.returns
returns c = λ a ha. (identity_left a ha, identity_right a ha)
