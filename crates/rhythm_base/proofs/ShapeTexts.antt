-- The text of a shape, piece by piece.
use Rattle.std.proofs.Common.{◌≡◌, ℕ, suc, ◌-◌, ◌≤◌, Bool, true, false, ◌==◌, if◌then◌else◌, List, [], ◌∷◌, ◌++◌, length, take, drop, get_or, codes, decimal, refl, sym, ap, ◌∙◌, arith, append_assoc, Result, Ok, Err, OnOk}
use Rattle.std.specs.Prelude.{is_ok}
use Rattle.std.proofs.lemmas.List.{take_all}
use Rattle.std.proofs.lemmas.Bool.Decides.{nat_tests}
use Rattle.rhythm_base.specs.Shape.{Shape, part, shape_of_parts}
use Rattle.rhythm_base.specs.ShapeText.{around_parts, after_part, shape_text, texts_of_parts}
use Rattle.rhythm_base.specs.Shapes.{parts_in}

-- a text that grew where the call could
pub grown : {T E : Type 0} (r : Result T E) (new old piece whole : List ℕ) → new ≡ (if is_ok r then old ++ piece else old) → old ++ piece ≡ whole → OnOk r (new ≡ whole)
grown (Ok x) new old piece whole is same = is ∙ same
grown (Err e) new old piece whole is same = tt

pub parts_in-shape_of_parts : (xs : List Shape) → parts_in (shape_of_parts xs) ≡ length xs
parts_in-shape_of_parts [] = refl
parts_in-shape_of_parts (x ∷ xs) = let rest = parts_in-shape_of_parts xs in omega (arith, rest)

-- a list with a first element and the others
pub first_and_rest : {X : Type 0} (d : X) (xs : List X) → 1 ≤ length xs → xs ≡ get_or xs 0 d ∷ take (length xs - 1) (drop 1 xs)
first_and_rest d [] some = absurd (omega (arith, some))
first_and_rest d (x ∷ xs) some = ap (λ l. x ∷ l) (sym (take_all (length (x ∷ xs) - 1) xs (omega arith)))

pub leaf_text : (x : Shape) (xs : List Shape) → shape_of_parts xs ≡ x → length xs ≡ 0 → codes "." ≡ shape_text x
unfolding shape_text
leaf_text x [] is none = ap (λ y. around_parts (parts_in y) (texts_of_parts y)) is
leaf_text x (y ∷ xs) is none = absurd (omega (arith, none))

not_none : (n m : ℕ) → n ≡ m → (n == 0) ≡ false → (m == 0) ≡ false
not_none n m same h = ap (λ k. k == 0) (sym same) ∙ h

-- the number of parts, their texts and the brackets
pub cut_text : (before : List ℕ) (x : Shape) (xs : List Shape) → shape_of_parts xs ≡ x → (length xs == 0) ≡ false
    → (((before ++ (decimal (length xs) ++ codes "(")) ++ texts_of_parts (shape_of_parts xs)) ++ codes ")") ≡ before ++ shape_text x
unfolding shape_text
cut_text before x xs is some =
    let D : List ℕ = decimal (length xs) in
    let T : List ℕ = texts_of_parts (shape_of_parts xs) in
    let whole : List ℕ = D ++ (codes "(" ++ (T ++ codes ")")) in
    append_assoc (before ++ (D ++ codes "(")) T (codes ")") ∙ append_assoc before (D ++ codes "(") (T ++ codes ")")
    ∙ ap (λ l. before ++ l) (append_assoc D (codes "(") (T ++ codes ")")
    ∙ ap (λ b. if b then codes "." else whole) (sym some)
    ∙ ap (λ n. around_parts n T) (sym (parts_in-shape_of_parts xs))
    ∙ ap (λ y. around_parts (parts_in y) (texts_of_parts y)) is)

after : (n m : ℕ) (texts : List ℕ) → n ≡ m → (n == 0 ≡ true → texts ≡ []) → (b : Bool) → (n == 0) ≡ b → (if b then [] else codes " ") ++ texts ≡ after_part m texts
after n m texts same none true is = none is ∙ ap (λ b. if b then [] else codes " " ++ texts) (sym is ∙ ap (λ k. k == 0) same)
after n m texts same none false is = ap (λ b. if b then [] else codes " " ++ texts) (sym is ∙ ap (λ k. k == 0) same)

none_none : (xs : List Shape) → (length xs == 0) ≡ true → texts_of_parts (shape_of_parts xs) ≡ []
none_none [] h = refl
none_none (x ∷ xs) h = let wrong : suc (length xs) ≡ 0 = grind (arith, nat_tests, h) in absurd (omega (arith, wrong))

-- the first part, the space where others follow, and the others
pub parts_text : (before : List ℕ) (x : Shape) (xs : List Shape)
    → ((before ++ shape_text x) ++ (if length xs == 0 then [] else codes " ")) ++ texts_of_parts (shape_of_parts xs) ≡ before ++ texts_of_parts (part x (shape_of_parts xs))
unfolding shape_text
parts_text before x xs =
    let S : List ℕ = around_parts (parts_in x) (texts_of_parts x) in
    let G : List ℕ = if length xs == 0 then [] else codes " " in
    let T : List ℕ = texts_of_parts (shape_of_parts xs) in
    append_assoc (before ++ S) G T ∙ append_assoc before S (G ++ T)
    ∙ ap (λ l. before ++ (S ++ l)) (after (length xs) (parts_in (shape_of_parts xs)) T (sym (parts_in-shape_of_parts xs)) (none_none xs) (length xs == 0) refl)
