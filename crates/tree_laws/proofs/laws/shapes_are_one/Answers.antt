use Rattle.tree_laws.proofs.ShapesOfTrees.{one_shape_of}
use Rattle.tree_laws.proofs.laws.shapes_are_one.Goals as goal

pub returns : goal.returns
returns c = one_shape_of
