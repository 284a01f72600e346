use Rattle.std.proofs.Common.{◌≡◌, true, map, take, drop}
use Rattle.rhythm_base.specs.Forest.{forest_of}
use Rattle.rhythm_base.specs.Shapes.{are_cut}
use Rattle.rhythm_base.specs.Trees.{shape_of}
use Rattle.rhythm_base.proofs.tree.Tree.+shape.Given as goal

abbrev pub decreases-shape : goal.decreases-shape
decreases-shape l = goal.size-shape l

abbrev pub invariant-loop-kid : goal.invariant-loop-kid
invariant-loop-kid l = record {
  done : l.parts.items ≡ map (λ k. shape_of k.kids) (take l.kid-index l.kid-items);
  left : are_cut (shape_of (forest_of (drop l.kid-index l.kid-items))) ≡ true;
}
