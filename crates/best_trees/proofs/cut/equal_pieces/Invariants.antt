use Rattle.std.proofs.Common.{◌≡◌, map, take}
use Rattle.best_trees.specs.Pieces.{piece_pair}
use Rattle.best_trees.proofs.cut.equal_pieces.Given as goal

abbrev pub invariant-loop-symbol : goal.invariant-loop-symbol
invariant-loop-symbol l = map piece_pair l.pieces.items ≡ map (λ s. (l.share, s)) (take l.symbol-index l.symbols)
