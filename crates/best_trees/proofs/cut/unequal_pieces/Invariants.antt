use Rattle.std.proofs.Common.{◌≡◌, ◌*◌, map, take}
use Rattle.best_trees.specs.Pieces.{piece_pair}
use Rattle.best_trees.proofs.cut.unequal_pieces.Given as goal

abbrev pub invariant-loop-part : goal.invariant-loop-part
invariant-loop-part l = map piece_pair l.pieces.items ≡ map (λ q. (q.0 * l.share, q.1)) (take l.part-index l.parts)
