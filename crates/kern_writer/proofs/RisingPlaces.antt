-- Lists of numbers that rise.
use Rattle.std.proofs.Common.{◌≡◌, ℕ, zero, suc, ◌+◌, ◌<◌, List, [], ◌∷◌, get_or, refl, sym, subst, ◌⊎◌, inl, inr, arith}
use Rattle.std.specs.Prelude.{◌↔◌, Contains}
use Rattle.std.specs.List.Sorted.{IsStrictlyIncreasing}
use Rattle.rhythm_base.proofs.OrderedLists.{rise_later}

pub contains_here : {X : Type 0} (x : X) (xs : List X) → Contains (x ∷ xs) x
contains_here x xs = (0, omega arith, refl)

pub contains_there : {X : Type 0} (x y : X) (xs : List X) → Contains xs y → Contains (x ∷ xs) y
contains_there x y xs (k, lt, e) = (suc k, omega (arith, lt), e)

pub contains_cases : {X : Type 0} (x y : X) (xs : List X) → Contains (x ∷ xs) y → (x ≡ y) ⊎ Contains xs y
contains_cases x y xs (zero, lt, e) = inl e
contains_cases x y xs (suc k, lt, e) = inr (k, omega (arith, lt), e)

pub contains_none : {X : Type 0} (y : X) → Contains [] y → ⊥
contains_none y (k, lt, e) = omega (arith, lt)

pub rising_cons : (x : ℕ) (xs : List ℕ) → ((y : ℕ) → Contains xs y → x < y) → IsStrictlyIncreasing xs → IsStrictlyIncreasing (x ∷ xs)
rising_cons x [] above h k lt = absurd (omega (arith, lt))
rising_cons x (y ∷ ys) above h zero lt = above y (contains_here y ys)
rising_cons x (y ∷ ys) above h (suc k) lt =
    let e : suc (k + 1) ≡ suc k + 1 = omega arith in
    subst (λ n. get_or (x ∷ y ∷ ys) (suc k) 0 < get_or (x ∷ y ∷ ys) n 0) e (h k (omega (arith, lt)))

pub rising_above : (x y : ℕ) (xs : List ℕ) → IsStrictlyIncreasing (x ∷ xs) → Contains xs y → x < y
rising_above x y [] h c = absurd (contains_none y c)
rising_above x y (z ∷ zs) h c = go (contains_cases z y zs c) (rising_above z y zs (rise_later x (z ∷ zs) h))
  where
    go : (z ≡ y) ⊎ Contains zs y → (Contains zs y → z < y) → x < y
    go (inl e) next = let first : x < z = h 0 (omega arith) in omega (arith, e, first)
    go (inr later) next = let first : x < z = h 0 (omega arith) in omega (arith, first, next later)

-- lists that rise and have the same members are one
pub rising_one : (xs ys : List ℕ) → IsStrictlyIncreasing xs → IsStrictlyIncreasing ys → ((z : ℕ) → Contains xs z ↔ Contains ys z) → xs ≡ ys
rising_one [] [] h k same = refl
rising_one [] (y ∷ ys) h k same = absurd (contains_none y ((same y).1 (contains_here y ys)))
rising_one (x ∷ xs) [] h k same = absurd (contains_none x ((same x).0 (contains_here x xs)))
rising_one (x ∷ xs) (y ∷ ys) h k same =
    let first = one (contains_cases y x ys ((same x).0 (contains_here x xs))) (contains_cases x y xs ((same y).1 (contains_here y ys))) in
    λ i. first i ∷ rising_one xs ys (rise_later x xs h) (rise_later y ys k) (λ z. (there first z, back first z)) i
  where
    one : (y ≡ x) ⊎ Contains ys x → (x ≡ y) ⊎ Contains xs y → x ≡ y
    one (inl e) other = sym e
    one (inr c) (inl e) = e
    one (inr c) (inr d) = let p = rising_above y x ys k c in let q = rising_above x y xs h d in absurd (omega (arith, p, q))

    there : x ≡ y → (z : ℕ) → Contains xs z → Contains ys z
    there e z c = go (contains_cases y z ys ((same z).0 (contains_there x z xs c)))
      where
        go : (y ≡ z) ⊎ Contains ys z → Contains ys z
        go (inl f) = let p = rising_above x z xs h c in absurd (omega (arith, p, e, f))
        go (inr d) = d

    back : x ≡ y → (z : ℕ) → Contains ys z → Contains xs z
    back e z c = go (contains_cases x z xs ((same z).1 (contains_there y z ys c)))
      where
        go : (x ≡ z) ⊎ Contains xs z → Contains xs z
        go (inl f) = let p = rising_above y z ys k c in absurd (omega (arith, p, e, f))
        go (inr d) = d
