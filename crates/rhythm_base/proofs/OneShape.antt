-- No shape's text begins another's: a text is that of one shape.
use Rattle.std.proofs.Common.{◌≡◌, ℕ, ◌+◌, Bool, true, false, ◌==◌, if◌then◌else◌, List, [], ◌++◌, codes, refl, sym, ap, ◌∙◌, arith, append_assoc}
use Rattle.std.proofs.lemmas.Bool.{and_parts}
use Rattle.std.proofs.lemmas.Bool.Decides.{nat_tests}
use Rattle.std.proofs.lemmas.List.{append_cancel_left}
use Rattle.rhythm_base.specs.Shape.{Shape, end, part}
use Rattle.rhythm_base.specs.ShapeText.{IsShapeText, around_parts, after_part, shape_text, texts_of_parts}
use Rattle.rhythm_base.specs.Shapes.{are_cut, can_have, parts_in}
use Rattle.rhythm_base.specs.ShapeReading.{head_text, tail_text}
use Rattle.rhythm_base.proofs.ShapeHeads.{around_is, same_head}

-- texts that begin alike have one head and go on alike
same_around : (m n : ℕ) (s t a b : List ℕ) → can_have m ≡ true → can_have n ≡ true → around_parts m s ++ a ≡ around_parts n t ++ b
    → (m ≡ n) × (tail_text m s ++ a ≡ tail_text n t ++ b)
same_around m n s t a b p q e =
    same_head m n (tail_text m s ++ a) (tail_text n t ++ b) p q
    (sym (append_assoc (head_text m) (tail_text m s) a) ∙ ap (λ l. l ++ a) (sym (around_is m s)) ∙ e
    ∙ ap (λ l. l ++ b) (around_is n t) ∙ append_assoc (head_text n) (tail_text n t) b)

-- what stands after the head of a cut
past_tail : (n : ℕ) (s a : List ℕ) → (n == 0) ≡ false → tail_text n s ++ a ≡ s ++ (codes ")" ++ a)
past_tail n s a some = ap (λ b. (if b then [] else s ++ codes ")") ++ a) some ∙ append_assoc s (codes ")") a

past_leaf : (n : ℕ) (s a : List ℕ) → (n == 0) ≡ true → tail_text n s ++ a ≡ a
past_leaf n s a none = ap (λ b. (if b then [] else s ++ codes ")") ++ a) none

no_parts : (x : Shape) → (parts_in x == 0) ≡ true → x ≡ end
no_parts end h = refl
no_parts (part x rest) h = let none : parts_in rest + 1 ≡ 0 = grind (arith, nat_tests, h) in absurd (omega (arith, none))

both_leaves : (x y : Shape) → parts_in x ≡ parts_in y → (parts_in x == 0) ≡ true → x ≡ y
both_leaves x y many h = no_parts x h ∙ sym (no_parts y (ap (λ n. n == 0) (sym many) ∙ h))

-- parts whose texts begin alike are the same
Same : Shape → Shape → Type 0
Same x y = (a b : List ℕ) → texts_of_parts x ++ a ≡ texts_of_parts y ++ b → (x ≡ y) × (a ≡ b)

-- so are shapes, by their parts
same_tails : (x y : Shape) (a b : List ℕ) → parts_in x ≡ parts_in y → Same x y
    → tail_text (parts_in x) (texts_of_parts x) ++ a ≡ tail_text (parts_in y) (texts_of_parts y) ++ b → (x ≡ y) × (a ≡ b)
unfolding Same
same_tails x y a b many same e = go (parts_in x == 0) refl
  where
    go : (c : Bool) → (parts_in x == 0) ≡ c → (x ≡ y) × (a ≡ b)
    go true h =
        (both_leaves x y many h, sym (past_leaf (parts_in x) (texts_of_parts x) a h) ∙ e ∙ past_leaf (parts_in y) (texts_of_parts y) b (ap (λ n. n == 0) (sym many) ∙ h))
    go false h =
        let parts = same (codes ")" ++ a) (codes ")" ++ b)
        (sym (past_tail (parts_in x) (texts_of_parts x) a h) ∙ e ∙ past_tail (parts_in y) (texts_of_parts y) b (ap (λ n. n == 0) (sym many) ∙ h)) in
        (parts.0, append_cancel_left (codes ")") a b parts.1)

-- and parts after others
same_after : (x y : Shape) (a b : List ℕ) → parts_in x ≡ parts_in y → Same x y
    → after_part (parts_in x) (texts_of_parts x) ++ a ≡ after_part (parts_in y) (texts_of_parts y) ++ b → (x ≡ y) × (a ≡ b)
unfolding Same
same_after x y a b many same e = go (parts_in x == 0) refl
  where
    text : (n : ℕ) (c : Bool) (s z : List ℕ) → (n == 0) ≡ c → after_part n s ++ z ≡ (if c then [] else codes " " ++ s) ++ z
    text n c s z h = ap (λ b. (if b then [] else codes " " ++ s) ++ z) h

    alike : (c : Bool) → (parts_in x == 0) ≡ c → (if c then [] else codes " " ++ texts_of_parts x) ++ a ≡ (if c then [] else codes " " ++ texts_of_parts y) ++ b
    alike c h = sym (text (parts_in x) c (texts_of_parts x) a h) ∙ e ∙ text (parts_in y) c (texts_of_parts y) b (ap (λ n. n == 0) (sym many) ∙ h)

    go : (c : Bool) → (parts_in x == 0) ≡ c → (x ≡ y) × (a ≡ b)
    go true h = (both_leaves x y many h, alike true h)
    go false h = same a b (append_cancel_left (codes " ") _ _ (alike false h))

pub same_parts : (x y : Shape) (a b : List ℕ) → parts_in x ≡ parts_in y → are_cut x ≡ true → are_cut y ≡ true
    → texts_of_parts x ++ a ≡ texts_of_parts y ++ b → (x ≡ y) × (a ≡ b)
unfolding Same
same_parts end end a b many p q e = (refl, e)
same_parts end (part y more) a b many p q e = absurd (omega (arith, many))
same_parts (part x rest) end a b many p q e = absurd (omega (arith, many))
same_parts (part x rest) (part y more) a b many p q e =
    let p' = and_parts (can_have (parts_in x)) _ p in
    let p'' = and_parts (are_cut x) _ p'.1 in
    let q' = and_parts (can_have (parts_in y)) _ q in
    let q'' = and_parts (are_cut y) _ q'.1 in
    let left : parts_in rest ≡ parts_in more = omega (arith, many) in
    let S : List ℕ = after_part (parts_in rest) (texts_of_parts rest) in
    let T : List ℕ = after_part (parts_in more) (texts_of_parts more) in
    let whole : around_parts (parts_in x) (texts_of_parts x) ++ (S ++ a) ≡ around_parts (parts_in y) (texts_of_parts y) ++ (T ++ b) =
    sym (append_assoc (around_parts (parts_in x) (texts_of_parts x)) S a) ∙ e ∙ append_assoc (around_parts (parts_in y) (texts_of_parts y)) T b in
    let head = same_around (parts_in x) (parts_in y) (texts_of_parts x) (texts_of_parts y) _ _ p'.0 q'.0 whole in
    let first = same_tails x y (S ++ a) (T ++ b) head.0 (λ u v. same_parts x y u v head.0 p''.0 q''.0) head.1 in
    let others = same_after rest more a b left (λ u v. same_parts rest more u v left p''.1 q''.1) first.1 in
    ((λ i. part (first.0 i) (others.0 i)), others.1)

-- a text begins with the text of one shape at most
pub same_shape : (x y : Shape) (a b : List ℕ) → can_have (parts_in x) ≡ true → can_have (parts_in y) ≡ true → are_cut x ≡ true → are_cut y ≡ true
    → shape_text x ++ a ≡ shape_text y ++ b → (x ≡ y) × (a ≡ b)
unfolding shape_text Same
same_shape x y a b can_x can_y cut_x cut_y e =
    let head = same_around (parts_in x) (parts_in y) (texts_of_parts x) (texts_of_parts y) a b can_x can_y e in
    same_tails x y a b head.0 (λ u v. same_parts x y u v head.0 cut_x cut_y) head.1

-- a text is that of one shape at most
pub one_shape : (text : List ℕ) (x y : Shape) → IsShapeText text x → IsShapeText text y → x ≡ y
one_shape text x y p q =
    let p' = and_parts (can_have (parts_in x)) _ p.shape in
    let q' = and_parts (can_have (parts_in y)) _ q.shape in
    (same_shape x y [] [] p'.0 q'.0 (and_parts (are_cut x) _ p'.1).0 (and_parts (are_cut y) _ q'.1).0 (ap (λ l. l ++ []) (sym p.is ∙ q.is))).0
