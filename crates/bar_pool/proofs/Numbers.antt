-- So many numbers one after another.
use Rattle.std.proofs.Common.{◌≡◌, ℕ, zero, suc, ◌+◌, ◌<◌, ◌≤◌, List, [], ◌∷◌, ◌++◌, length, refl, ap, subst, ◌∙◌, arith, All}
use Rattle.std.specs.Prelude.{Some, slice_get}
use Rattle.std.proofs.lemmas.List.Elements.{All-cons, All-nil}
use Rattle.bar_pool.specs.Sources.{counted_from}
use Rattle.rhythm_base.specs.Lists.{Each}

pub numbers_more : (n count : ℕ) → counted_from n (count + 1) ≡ counted_from n count ++ (n + count) ∷ []
numbers_more n zero = let here : n ≡ n + 0 = omega arith in ap (λ m. m ∷ []) here
numbers_more n (suc count) =
    let place : (n + 1) + count ≡ n + suc count = omega arith in
    let more : suc count + 1 ≡ suc (count + 1) = omega arith in
    ap (counted_from n) more ∙ ap (λ l. n ∷ l) (numbers_more (n + 1) count ∙ ap (λ m. counted_from (n + 1) count ++ m ∷ []) place)

pub numbers_length : (n count : ℕ) → length (counted_from n count) ≡ count
numbers_length n zero = refl
numbers_length n (suc count) = ap suc (numbers_length (n + 1) count)

pub numbers_low : (n count most : ℕ) → n + count ≤ most → All (λ k. k < most) (counted_from n count)
numbers_low n zero most few = All-nil (λ k. k < most)
numbers_low n (suc count) most few = All-cons (λ k. k < most) n (counted_from (n + 1) count) (omega (arith, few)) (numbers_low (n + 1) count most (omega (arith, few)))

-- what each number has, each member of a list has
pub of_members : {X Y : Type 0} (At : ℕ → Y → Type 0) (Of : X → Y → Type 0) (n : ℕ) (xs : List X) (ys : List Y)
    → ((k : ℕ) (x : X) (y : Y) → slice_get xs k ≡ Some x → At (n + k) y → Of x y) → Each At (counted_from n (length xs)) ys → Each Of xs ys
of_members At Of n [] ys own h = h
of_members At Of n (x ∷ xs) [] own h = h
of_members At Of n (x ∷ xs) (y ∷ ys) own h =
    let here : n ≡ n + 0 = omega arith in
    let later : (k : ℕ) (z : _) (w : _) → slice_get xs k ≡ Some z → At ((n + 1) + k) w → Of z w
    = λ k z w e p. let place : (n + 1) + k ≡ n + suc k = omega arith in own (suc k) z w e (subst (λ m. At m w) place p) in
    (own 0 x y refl (subst (λ m. At m y) here h.0), of_members At Of (n + 1) xs ys later h.1)
