use Rattle.std.proofs.Common.{◌<◌, ◌-◌, ◌∷◌, length, get_or, map, take, drop, subst, sym}
use Rattle.tree_laws.specs.Forests.{AreWide}
use Rattle.best_trees.specs.Pieces.{piece_pair}
use Rattle.best_trees.specs.Pins.{NoneFit, demanded}
use Rattle.best_trees.specs.declared.cut.Piece.{Piece}
use Rattle.best_trees.proofs.Crowds.{crowded-none, others-none}
use Rattle.best_trees.proofs.Parts.{pieces-split}
use Rattle.best_trees.proofs.pins.Pins.+room.Goals as goal

pub returns-then-leaves-from : goal.returns-then-leaves-from
returns-then-leaves-from t c = λ is all_wide.
    let xs = c.args.pieces.now in
    let s = demanded c.args.self.now c.args.demand in
    let x : Piece = get_or xs 0 (record { width = 0; symbol = 0 }) in
    let rest = take (length xs - 1) (drop 1 xs) in
    let e = pieces-split xs (record { width = 0; symbol = 0 }) c.in-len1-up.len_at_least in
    let wide : AreWide (map piece_pair (x ∷ rest)) = subst (λ l. AreWide (map piece_pair l)) e all_wide in
    let many : x.width < c.leaves.result = subst (λ n. n < c.leaves.result) c.from.ensures c.if-leaves-from.true in
    subst (λ l. NoneFit (map piece_pair l) s) (sym e)
    (crowded-none (piece_pair x) (map piece_pair rest) s (demanded c.args.self.now c.in-Some.first) c.leaves.result wide.0 c.in-Some.ensures.0 c.leaves.ensures many)

pub returns-else-leaves-from : goal.returns-else-leaves-from
returns-else-leaves-from t c = λ is all_wide.
    let xs = c.args.pieces.now in
    let s = demanded c.args.self.now c.args.demand in
    let x : Piece = get_or xs 0 (record { width = 0; symbol = 0 }) in
    let rest = take (length xs - 1) (drop 1 xs) in
    let e = pieces-split xs (record { width = 0; symbol = 0 }) c.in-len1-up.len_at_least in
    let wide : AreWide (map piece_pair (x ∷ rest)) = subst (λ l. AreWide (map piece_pair l)) e all_wide in
    subst (λ l. NoneFit (map piece_pair l) s) (sym e)
    (others-none (piece_pair x) (map piece_pair rest) s (demanded c.args.self.now c.in-Some.others) c.in-Some.ensures.1 (c.have_room.ensures is wide.1))
