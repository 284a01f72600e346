use Rattle.std.proofs.Common.{rules, ◌≡◌, ◌++◌, ◌≤◌, max, ◌+◌, [], ◌∷◌, List, length, subst, sym, arith}
use Rattle.rhythm_base.specs.Shape.{Shape}
use Rattle.best_trees.proofs.Outlines.{counted-push, kept_part, outlines-push}
use Rattle.best_trees.specs.Pins.{GrowsOutlines, HasOutline, leaf_count, outline_at, outlines, part_outline}
use Rattle.best_trees.specs.declared.pins.PinPart.{PinPart}
use Rattle.best_trees.proofs.pins.Pins.keep.Goals as goal

pub invariant_of-self-2 : goal.invariant_of-self-2
invariant_of-self-2 c =
    let xs = c.self.inside.parts.items in
    let x : PinPart = record { parts = c.args.parts; others = c.args.others; leaves = c.saturating_add-leaves.result } in
    let next : c.push.new.self.items ≡ xs ++ x ∷ [] = search rules in
    let P : List Shape → Type 0 = λ os. c.leaves_of.result ≤ leaf_count (outline_at os c.args.parts) in
    let Q : List Shape → Type 0 = λ os. c.leaves_of-2.result ≤ leaf_count (outline_at os c.args.others) in
    let one : c.leaves_of.result ≤ leaf_count (outline_at (outlines [] xs) c.args.parts) = subst P (sym c.self.view_is) c.leaves_of.ensures in
    let two : c.leaves_of-2.result ≤ leaf_count (outline_at (outlines [] xs) c.args.others) = subst Q (sym c.self.view_is) c.leaves_of-2.ensures in
    let sum : c.saturating_add-leaves.result ≤ max 1 c.leaves_of.result + c.leaves_of-2.result = search rules in
    counted-push xs c.push.new.self.items x next c.self.invariant (omega (arith, one, two, sum))

pub returns-clause-more : goal.returns-clause-more
returns-clause-more c =
    let xs = c.self.inside.parts.items in
    let x : PinPart = record { parts = c.args.parts; others = c.args.others; leaves = c.saturating_add-leaves.result } in
    let P : List Shape → Type 0 = λ os. GrowsOutlines os (outlines [] c.push.new.self.items) in
    let next : c.push.new.self.items ≡ xs ++ x ∷ [] = search rules in
    let grown : outlines [] c.push.new.self.items ≡ outlines [] xs ++ part_outline (outlines [] xs) x ∷ [] = rw next (outlines-push xs x) in
    subst P c.self.view_is (part_outline (outlines [] xs) x ∷ [], grown)

pub returns-clause-outline : goal.returns-clause-outline
returns-clause-outline c = λ x y h k.
    let xs = c.self.inside.parts.items in
    let z : PinPart = record { parts = c.args.parts; others = c.args.others; leaves = c.saturating_add-leaves.result } in
    let P : List Shape → Type 0 = λ os. HasOutline os c.args.parts x in
    let Q : List Shape → Type 0 = λ os. HasOutline os c.args.others y in
    let next : c.push.new.self.items ≡ xs ++ z ∷ [] = search rules in
    let at : c.len-number.result ≡ length xs = search rules in
    kept_part xs c.push.new.self.items z c.len-number.result x y next at (subst P (sym c.self.view_is) h) (subst Q (sym c.self.view_is) k)
