-- Numbers of the middle: none is too great, and lists of borders one by one.
use Rattle.std.proofs.Common.{◌≡◌, ℕ, zero, suc, ◌+◌, ◌-◌, ◌*◌, ◌/◌, ◌%◌, ◌<◌, ◌≤◌, Bool, true, false, cond, eqb, List, [], ◌∷◌, ◌++◌, length, map, max, inl, inr, refl, sym, ap, ◌∙◌, arith, append_assoc}
use Rattle.std.specs.Prelude.{◌==◌, filter, fold, slice_index}
use Rattle.std.specs.List.{range_with_len}
use Rattle.std.proofs.lemmas.Bool.{cases_lt}
use Rattle.std.proofs.lemmas.Bool.Decides.{nat_tests}
use Rattle.std.proofs.lemmas.List.{append-nil, length-map}
use Rattle.std.proofs.lemmas.List.FromFn.{length-range_with_len}
use Rattle.std.proofs.Math.Nat.{mul-le-mul_left}
use Rattle.rhythm_base.proofs.Members.{Among, out_of}
use Rattle.rhythm_base.specs.Lists.{greatest, least_of}
use Rattle.hand_borders.proofs.FirstLeast.{range_among}
use Rattle.performance_prepare.specs.Middle.{best_borders, best_parting, inner_borders, numbers_from, parting, parting_border}
use Rattle.performance_prepare.proofs.LeastNumbers.{fold_low}

-- ---- bounds

pub mean_low : (s n : ℕ) → 1 ≤ n → s ≤ 127 * n → (16 * s) / n ≤ 2032
mean_low s n some low =
    let whole : n * ((16 * s) / n) + (16 * s) % n ≡ 16 * s = omega (arith, some) in
    let bound : n * ((16 * s) / n) ≤ n * 2032 = omega (arith, whole, low) in
    below n ((16 * s) / n) some bound
  where
    below : (n q : ℕ) → 1 ≤ n → n * q ≤ n * 2032 → q ≤ 2032
    below n q some le = elim (cases_lt q 2033) [
      | inl h ↦ omega (arith, h)
      | inr h ↦ (let more : n * 2033 ≤ n * q = mul-le-mul_left n h in absurd (omega (arith, more, le, some)))
    ]

-- ---- the numbers from one on

pub from_more : (b e : ℕ) → b < e → numbers_from b e ≡ b ∷ numbers_from (b + 1) e
unfolding numbers_from
from_more b e lt = ap (range_with_len b) (let next : e - b ≡ suc (e - (b + 1)) = omega (arith, lt) in next)

pub from_end : (b e : ℕ) → e ≤ b → numbers_from b e ≡ []
unfolding numbers_from
from_end b e le = ap (range_with_len b) (let none : e - b ≡ 0 = omega (arith, le) in none)

pub length_from : (b e : ℕ) → length (numbers_from b e) ≡ e - b
unfolding numbers_from
length_from b e = length-range_with_len b (e - b)

pub from_among : (b e x : ℕ) → Among x (numbers_from b e) → (b ≤ x) × (x < e)
unfolding numbers_from
from_among b e x am = let r = range_among b (e - b) x am in (r.0, omega (arith, r.0, r.1))

entry : (f : ℕ → ℕ) (a n k : ℕ) → k < n → slice_index (map f (range_with_len a n)) k ≡ f (a + k)
entry f a zero k lt = absurd (omega (arith, lt))
entry f a (suc n) zero lt = ap f (let e : a ≡ a + 0 = omega arith in e)
entry f a (suc n) (suc k) lt = entry f (a + 1) n k (omega (arith, lt)) ∙ ap f (let e : a + 1 + k ≡ a + suc k = omega arith in e)

pub from_entry : (f : ℕ → ℕ) (b e k : ℕ) → k < e - b → slice_index (map f (numbers_from b e)) k ≡ f (b + k)
unfolding numbers_from
from_entry f b e k lt = entry f b (e - b) k lt

filter_range : (p q : ℕ → Bool) (a n : ℕ) → ((b : ℕ) → a ≤ b → b < a + n → p b ≡ q b)
    → filter p (range_with_len a n) ≡ filter q (range_with_len a n)
filter_range p q a zero h = refl
filter_range p q a (suc n) h =
    let rest = filter_range p q (a + 1) n (λ b low high. h b (omega arith) (omega arith)) in
    let here : p a ≡ q a = h a (omega arith) (omega arith) in
    λ i. cond (here i) (a ∷ rest i) (rest i)

pub filter_from : (p q : ℕ → Bool) (b e : ℕ) → ((x : ℕ) → b ≤ x → x < e → p x ≡ q x)
    → filter p (numbers_from b e) ≡ filter q (numbers_from b e)
unfolding numbers_from
filter_from p q b e h = filter_range p q b (e - b) (λ x low high. h x low (omega (arith, low, high)))

-- ---- one number more

pub one_more : {Y : Type 0} (f : ℕ → Y) (list more all : List Y) (b e : ℕ) → b < e → more ≡ list ++ f b ∷ []
    → list ++ map f (numbers_from b e) ≡ all → more ++ map f (numbers_from (b + 1) e) ≡ all
one_more f list more all b e lt pushed h =
    ap (λ xs. xs ++ map f (numbers_from (b + 1) e)) pushed ∙ append_assoc list (f b ∷ []) (map f (numbers_from (b + 1) e))
    ∙ sym (ap (λ xs. list ++ map f xs) (from_more b e lt)) ∙ h

pub no_more : {Y : Type 0} (f : ℕ → Y) (list all : List Y) (b e : ℕ) → e ≤ b → list ++ map f (numbers_from b e) ≡ all → list ≡ all
no_more f list all b e past h = sym (append-nil list) ∙ sym (ap (λ xs. list ++ map f xs) (from_end b e past)) ∙ h

pub kept_more : (p : ℕ → Bool) (list more all : List ℕ) (b e : ℕ) → b < e → p b ≡ true → more ≡ list ++ b ∷ []
    → list ++ filter p (numbers_from b e) ≡ all → more ++ filter p (numbers_from (b + 1) e) ≡ all
kept_more p list more all b e lt passes pushed h =
    ap (λ xs. xs ++ filter p (numbers_from (b + 1) e)) pushed ∙ append_assoc list (b ∷ []) (filter p (numbers_from (b + 1) e))
    ∙ ap (λ t. list ++ cond t (b ∷ filter p (numbers_from (b + 1) e)) (filter p (numbers_from (b + 1) e))) (sym passes)
    ∙ sym (ap (λ xs. list ++ filter p xs) (from_more b e lt)) ∙ h

pub left_out : (p : ℕ → Bool) (list all : List ℕ) (b e : ℕ) → b < e → p b ≡ false → list ++ filter p (numbers_from b e) ≡ all
    → list ++ filter p (numbers_from (b + 1) e) ≡ all
left_out p list all b e lt fails h =
    ap (λ t. list ++ cond t (b ∷ filter p (numbers_from (b + 1) e)) (filter p (numbers_from (b + 1) e))) (sym fails)
    ∙ sym (ap (λ xs. list ++ filter p xs) (from_more b e lt)) ∙ h

pub none_left : (p : ℕ → Bool) (list all : List ℕ) (b e : ℕ) → e ≤ b → list ++ filter p (numbers_from b e) ≡ all → list ≡ all
none_left p list all b e past h = sym (append-nil list) ∙ sym (ap (λ xs. list ++ filter p xs) (from_end b e past)) ∙ h

-- ---- the entries of a list of partings

pub length_partings : (keys : List ℕ) (list : List ℕ) → list ≡ map (parting keys) inner_borders → length list ≡ 127
length_partings keys list e = ap length e ∙ length-map inner_borders (parting keys) ∙ length_from 1 128

pub borders_best : (keys list : List ℕ) (best : ℕ) → list ≡ map (parting keys) inner_borders → best ≡ greatest list
    → filter (λ b. slice_index list (b - 1) == best) inner_borders ≡ best_borders keys
borders_best keys list best e is =
    let top : best ≡ best_parting keys = is ∙ ap greatest e in
    filter_from (λ b. slice_index list (b - 1) == best) (λ b. parting keys b == best_parting keys) 1 128 (λ b low high.
    let at : slice_index list (b - 1) ≡ parting keys b = ap (λ xs. slice_index xs (b - 1)) e
    ∙ from_entry (parting keys) 1 128 (b - 1) (omega arith) ∙ ap (parting keys) (let s : 1 + (b - 1) ≡ b = omega arith in s) in
    λ i. at i == top i)

-- ---- no border is above 127

pub fold_high : (n m : ℕ) (xs : List ℕ) → n ≤ m → ((x : ℕ) → Among x xs → x ≤ m) → fold (λ a b. max a b) n xs ≤ m
fold_high n m [] low all = low
fold_high n m (x ∷ xs) low all = fold_high (max n x) m xs (let here = all x (inl refl) in omega (arith, here, low)) (λ y am. all y (inr am))

best_high : (keys : List ℕ) (x : ℕ) → Among x (best_borders keys) → x ≤ 127
best_high keys x am = let r = from_among 1 128 x (out_of (λ b. parting keys b == best_parting keys) inner_borders x am).0 in
    omega (arith, r.1)

pub greatest_best : (keys : List ℕ) → greatest (best_borders keys) ≤ 127
greatest_best keys = fold_high 0 127 (best_borders keys) (omega arith) (best_high keys)

pub least_best : (keys : List ℕ) → least_of (best_borders keys) ≤ 127
least_best keys = go (best_borders keys) (best_high keys)
  where
    go : (xs : List ℕ) → ((x : ℕ) → Among x xs → x ≤ 127) → least_of xs ≤ 127
    go [] all = omega arith
    go (x ∷ xs) all = let low = fold_low x xs in let here = all x (inl refl) in omega (arith, low, here)

-- ---- the border

pub border_usual : (keys : List ℕ) → best_parting keys ≡ 0 → 60 ≡ parting_border keys
border_usual keys e = ap (λ n. cond (eqb n 0) 60 ((least_of (best_borders keys) + greatest (best_borders keys)) / 2)) (sym e)

not_none : (n : ℕ) → (n ≡ 0 → ⊥) → eqb n 0 ≡ false
not_none n more = grind (arith, nat_tests)

pub border_midway : (keys : List ℕ) (low high : ℕ) → (best_parting keys ≡ 0 → ⊥) → low ≡ least_of (best_borders keys)
    → high ≡ greatest (best_borders keys) → (low + high) / 2 ≡ parting_border keys
border_midway keys low high some l h =
    (λ i. (l i + h i) / 2)
    ∙ ap (λ b. cond b 60 ((least_of (best_borders keys) + greatest (best_borders keys)) / 2)) (sym (not_none (best_parting keys) some))

-- ---- tests

pub test_true : (a b : ℕ) → a ≡ b → eqb a b ≡ true
test_true a b e = grind (arith, nat_tests)

pub test_false : (a b : ℕ) → (a ≡ b → ⊥) → eqb a b ≡ false
test_false a b e = grind (arith, nat_tests)
