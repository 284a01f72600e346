use Rattle.path_laws.proofs.PathTables.{product_assoc}
use Rattle.carry_matrix.proofs.laws.products_associate.Goals as goal

pub returns : goal.returns
returns c = product_assoc
