-- A shape as numbers and back, by which contracts see it as a value.
use Rattle.std.specs.Prelude.{◌≡◌, ℕ, List, [], ◌∷◌, ◌++◌, refl}
use Rattle.std.specs.Coded.{Coded, code_by, coded_ℕ, coded_list}
use Rattle.std.proofs.Common.{zero, suc, ap, ◌∙◌, sym, append_assoc, append-nil}
use Rattle.rhythm_base.specs.Shape.{Shape, end, part}

abbrev pub shape_numbers : Shape → List ℕ
shape_numbers end = 0 ∷ []
shape_numbers (part x rest) = 1 ∷ (shape_numbers x ++ shape_numbers rest)

abbrev pub pile_paired : List Shape → List Shape
pile_paired (x ∷ rest ∷ pile) = part x rest ∷ pile
pile_paired _ = []

abbrev pub shapes_with : ℕ → List Shape → List Shape
shapes_with zero pile = end ∷ pile
shapes_with (suc n) pile = pile_paired pile

abbrev pub shape_pile : List ℕ → List Shape
shape_pile [] = []
shape_pile (n ∷ ns) = shapes_with n (shape_pile ns)

abbrev pub top_shape : List Shape → Shape
top_shape [] = end
top_shape (x ∷ xs) = x

shape_pile-numbers : (x : Shape) (ns : List ℕ) → shape_pile (shape_numbers x ++ ns) ≡ x ∷ shape_pile ns
shape_pile-numbers end ns = refl
shape_pile-numbers (part x rest) ns =
    ap (λ l. shapes_with 1 (shape_pile l)) (append_assoc (shape_numbers x) (shape_numbers rest) ns)
    ∙ ap pile_paired (shape_pile-numbers x (shape_numbers rest ++ ns) ∙ ap (λ l. x ∷ l) (shape_pile-numbers rest ns))

pub shape_numbers-back : (x : Shape) → top_shape (shape_pile (shape_numbers x)) ≡ x
shape_numbers-back x = ap (λ l. top_shape (shape_pile l)) (sym (append-nil (shape_numbers x))) ∙ ap top_shape (shape_pile-numbers x [])

abbrev pub shape_code : Coded Shape
shape_code = code_by (List ℕ) (coded_list coded_ℕ) shape_numbers (λ ns. top_shape (shape_pile ns)) shape_numbers-back
