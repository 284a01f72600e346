-- The least of numbers: it is one of them, and no other is less.
use Rattle.std.proofs.Common.{ℕ, ◌≤◌, List, [], ◌∷◌, length, min, inl, inr, refl, arith}
use Rattle.std.specs.Prelude.{fold}
use Rattle.std.proofs.lemmas.Bool.{cases_lt}
use Rattle.rhythm_base.proofs.Members.{Among}
use Rattle.rhythm_base.specs.Lists.{least_of}

pub fold_low : (n : ℕ) (xs : List ℕ) → fold min n xs ≤ n
fold_low n [] = omega arith
fold_low n (x ∷ xs) = let rest = fold_low (min n x) xs in omega (arith, rest)

pub fold_least : (n : ℕ) (xs : List ℕ) (x : ℕ) → Among x xs → fold min n xs ≤ x
fold_least n [] x am = absurd am
fold_least n (y ∷ xs) x (inl e) = let rest = fold_low (min n y) xs in omega (arith, rest, e)
fold_least n (y ∷ xs) x (inr am) = fold_least (min n y) xs x am

pub fold_over : (b n : ℕ) (xs : List ℕ) → b ≤ n → ((x : ℕ) → Among x xs → b ≤ x) → b ≤ fold min n xs
fold_over b n [] low all = low
fold_over b n (x ∷ xs) low all =
    fold_over b (min n x) xs (let here = all x (inl refl) in omega (arith, here, low)) (λ y am. all y (inr am))

pub least_among : (xs : List ℕ) (x : ℕ) → Among x xs → least_of xs ≤ x
least_among [] x am = absurd am
least_among (y ∷ xs) x (inl e) = let low = fold_low y xs in omega (arith, low, e)
least_among (y ∷ xs) x (inr am) = fold_least y xs x am

fold_there : (n : ℕ) (xs : List ℕ) → Among (fold min n xs) (n ∷ xs)
fold_there n [] = inl refl
fold_there n (x ∷ xs) = by (fold_there (min n x) xs)
  where
    by : Among (fold min (min n x) xs) (min n x ∷ xs) → Among (fold min (min n x) xs) (n ∷ x ∷ xs)
    by (inr am) = inr (inr am)
    by (inl e) = elim (cases_lt n x) [
      | inl less ↦ inl (omega (arith, e, less))
      | inr more ↦ inr (inl (omega (arith, e, more)))
    ]

pub least_there : (xs : List ℕ) → 1 ≤ length xs → Among (least_of xs) xs
least_there [] some = absurd (omega (arith, some))
least_there (x ∷ xs) some = fold_there x xs
