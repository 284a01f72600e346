use Rattle.tree_laws.proofs.ShapesOfTrees.{tree-has_shape}
use Rattle.tree_laws.proofs.laws.trees_have_shapes.Goals as goal

pub returns : goal.returns
returns c = tree-has_shape
