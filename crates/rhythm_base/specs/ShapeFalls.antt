-- A part is smaller than its shape.
use Rattle.std.specs.Prelude.{◌≤◌, max}
use Rattle.std.proofs.Common.{arith}
use Rattle.rhythm_base.specs.declared.shape.Node.{Node}
use Rattle.rhythm_base.specs.declared.shape.Node.TheVariants.{Leaf, Cut}
use Rattle.rhythm_base.specs.declared.shape.Shape.TheDeep.{deep-Node}
use Rattle.rhythm_base.specs.Shape.{cuts, most_le-cuts}
use Rattle.rhythm_base.specs.Shapes.{shape_of_node}

pub deep_le : (n : Node) → max (deep-Node n) 0 ≤ cuts (shape_of_node n)
deep_le Leaf = omega arith
deep_le (Cut parts) = omega (arith, most_le-cuts parts.items)
