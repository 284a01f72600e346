-- Sums over a list, and how often numbers stand in one.
use Rattle.std.proofs.Common.{◌≡◌, ⊎_elim, ℕ, zero, suc, ◌+◌, ◌<◌, ◌≤◌, max, nat_lt, ◌==◌, cond, List, [], ◌∷◌, ◌++◌, length, get_or, set, All, refl, sym, subst, arith}
use Rattle.std.specs.Prelude.{if◌then◌else◌, Some, slice_get, sum_by, flat_map}
use Rattle.std.proofs.lemmas.Bool.Decides.{nat_tests}
use Rattle.std.proofs.lemmas.Bool.{cases_lt}
use Rattle.std.proofs.lemmas.List.Sums.{sum_by-cons, sum_by-append, sum_by-set, get_or-le-sum_by}
use Rattle.std.proofs.lemmas.List.Elements.{All-head, All-tail}
use Rattle.std.proofs.lemmas.Option.{get_or_from_slice_get, slice_get_within}
use Rattle.bar_pool.specs.Draws.{occurrences, HasEachBelow}

module _ {X : Type 0} (f : X → ℕ) where
  -- the sum after one member became another
  pub sum_by-at : (xs : List X) (i : ℕ) (v w : X) → slice_get xs i ≡ Some v → sum_by f (set xs i w) + f v ≡ sum_by f xs + f w
  sum_by-at xs i v w e = let P : X → Type 0 = λ u. sum_by f (set xs i w) + f u ≡ sum_by f xs + f w in subst P (get_or_from_slice_get xs i v v e) (sum_by-set f xs i w v (slice_get_within xs i v e))

  -- no member is above the sum
  pub sum_by-most : (xs : List X) (i : ℕ) (v : X) → slice_get xs i ≡ Some v → f v ≤ sum_by f xs
  sum_by-most xs i v e = let P : X → Type 0 = λ u. f u ≤ sum_by f xs in subst P (get_or_from_slice_get xs i v v e) (get_or-le-sum_by f xs i v (slice_get_within xs i v e))

module _ {X : Type 0} (f g : X → ℕ) where
  sum_by-all : (xs : List X) → All (λ x. f x ≤ g x) xs → sum_by f xs ≤ sum_by g xs
  sum_by-all [] h = omega arith
  sum_by-all (x ∷ xs) h = let P : X → Type 0 = λ x. f x ≤ g x in omega (arith, sum_by-cons f x xs, sum_by-cons g x xs, All-head P x xs h, sum_by-all xs (All-tail P x xs h))

  -- one is strictly below, so the sum is
  pub sum_by-below : (xs : List X) (i : ℕ) (v : X) → All (λ x. f x ≤ g x) xs → slice_get xs i ≡ Some v → f v < g v → sum_by f xs < sum_by g xs
  sum_by-below [] i v h e l = absurd (cc)
  sum_by-below (x ∷ xs) zero v h e l =
      let same : x ≡ v = cc in
      let P : X → Type 0 = λ x. f x ≤ g x in
      let there : f x < g x = subst (λ u. f u < g u) (sym same) l in
      omega (arith, sum_by-cons f x xs, sum_by-cons g x xs, there, sum_by-all xs (All-tail P x xs h))
  sum_by-below (x ∷ xs) (suc i) v h e l =
      let P : X → Type 0 = λ x. f x ≤ g x in
      omega (arith, sum_by-cons f x xs, sum_by-cons g x xs, All-head P x xs h, sum_by-below xs i v (All-tail P x xs h) e l)

pub times-cons : (x y : ℕ) (ys : List ℕ) → occurrences x (y ∷ ys) ≡ (if y == x then 1 else 0) + occurrences x ys
times-cons x y ys = sum_by-cons (λ y. cond (y == x) 1 0) y ys

pub times-append : (x : ℕ) (xs ys : List ℕ) → occurrences x (xs ++ ys) ≡ occurrences x xs + occurrences x ys
times-append x xs ys = sum_by-append (λ y. cond (y == x) 1 0) xs ys

-- a number that stands in the list is counted
pub times-at : (xs : List ℕ) (k d : ℕ) → k < length xs → 1 ≤ occurrences (get_or xs k d) xs
times-at [] k d h = absurd (omega arith)
times-at (y ∷ xs) zero d h = let c = times-cons y y xs in grind (arith, nat_tests, c)
times-at (y ∷ xs) (suc k) d h = omega (arith, times-at xs k d (omega arith), times-cons (get_or xs k d) y xs)

module _ {X : Type 0} (f : X → List ℕ) where
  -- how often a number stands in several lists
  pub times-flat_map : (x : ℕ) (xs : List X) → occurrences x (flat_map f xs) ≡ sum_by (λ u. occurrences x (f u)) xs
  times-flat_map x [] = refl
  times-flat_map x (y ∷ ys) = omega (arith, times-append x (f y) (flat_map f ys), times-flat_map x ys, sum_by-cons (λ u. occurrences x (f u)) y ys)

-- how many numbers below n there are in the list
spread : ℕ → List ℕ → ℕ
spread zero xs = 0
spread (suc n) xs = spread n xs + occurrences n xs

one_more : (y n : ℕ) → (if nat_lt y n then 1 else 0) + (if y == n then 1 else 0) ≡ (if nat_lt y (suc n) then 1 else 0)
one_more y n = grind (arith, nat_tests)

spread-cons : (n y : ℕ) (ys : List ℕ) → spread n (y ∷ ys) ≡ spread n ys + (if nat_lt y n then 1 else 0)
unfolding spread
spread-cons zero y ys = grind (arith, nat_tests)
spread-cons (suc n) y ys = omega (arith, spread-cons n y ys, one_more y n, times-cons n y ys)

pub below_one : (y n : ℕ) → y < n → ◌≡◌ {A = ℕ} (if nat_lt y n then 1 else 0) 1
below_one y n h = grind (arith, nat_tests)

pub above_none : (y n : ℕ) → n ≤ y → ◌≡◌ {A = ℕ} (if nat_lt y n then 1 else 0) 0
above_none y n h = grind (arith, nat_tests)

pub most_one : (x n : ℕ) → ◌≤◌ (if nat_lt x n then 1 else 0) 1
most_one x n = grind (arith, nat_tests)

pub below_from : (x n : ℕ) → 1 ≤ (if nat_lt x n then 1 else 0) → x < n
below_from x n h = grind (arith, nat_tests)

pub self_once : (y n : ℕ) → 1 ≤ (if y == y then 1 else 0) + n
self_once y n = grind (arith, nat_tests)

spread-nil : (n : ℕ) → spread n [] ≡ 0
unfolding spread
spread-nil zero = refl
spread-nil (suc n) = omega (arith, spread-nil n)

spread-length : (n : ℕ) (xs : List ℕ) → ((x : ℕ) → n ≤ x → occurrences x xs ≡ 0) → spread n xs ≡ length xs
spread-length n [] h = spread-nil n
spread-length n (y ∷ ys) h =
    let low : y < n = ⊎_elim (λ (l : y < n). l) (λ (g : n ≤ y). absurd (omega (arith, h y g, self_once y (occurrences y ys), times-cons y y ys))) (cases_lt y n) in
    omega (arith, spread-cons n y ys, below_one y n low, spread-length n ys (λ x g. omega (arith, h x g, times-cons x y ys)))

spread-each : (n m : ℕ) (xs : List ℕ) → n ≤ m → HasEachBelow m xs → spread n xs ≡ n
unfolding spread
spread-each zero m xs low h = refl
spread-each (suc n) m xs low h = omega (arith, spread-each n m xs (omega arith) h, h n, below_one n m (omega arith))

-- a list that has each number below n once has n numbers
pub length-each : (n : ℕ) (xs : List ℕ) → HasEachBelow n xs → length xs ≡ n
length-each n xs h = omega (arith, spread-length n xs (λ x g. omega (arith, h x, above_none x n g)), spread-each n n xs (omega arith) h)

-- the least number above all of the list
pub above : List ℕ → ℕ
above [] = 0
above (x ∷ xs) = max (x + 1) (above xs)

pub above-least : (xs : List ℕ) (n : ℕ) → All (λ x. x < n) xs → above xs ≤ n
unfolding above
above-least [] n h = omega arith
above-least (x ∷ xs) n h = let P : ℕ → Type 0 = λ x. x < n in omega (arith, All-head P x xs h, above-least xs n (All-tail P x xs h))

pub above-push : (xs : List ℕ) (n : ℕ) → above (xs ++ n ∷ []) ≡ max (above xs) (n + 1)
unfolding above
above-push [] n = omega arith
above-push (x ∷ xs) n = omega (arith, above-push xs n)

pub above-nil : above [] ≡ 0
unfolding above
above-nil = refl
