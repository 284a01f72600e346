-- Tests of all numbers below one.
use Rattle.std.proofs.Common.{◌≡◌, ℕ, zero, suc, ◌<◌, ◌==◌, ◌&&◌, Bool, true, false, subst, arith, refl}
use Rattle.std.proofs.lemmas.Bool.{and_parts}
use Rattle.std.proofs.lemmas.Bool.Decides.{nat_tests}

-- each number below n passes the test
abbrev pub all_below : (ℕ → Bool) → ℕ → Bool
all_below test zero = true
all_below test (suc n) = test n && all_below test n

pub one_below : (test : ℕ → Bool) (n k : ℕ) → all_below test n ≡ true → k < n → test k ≡ true
one_below test zero k all within = absurd (omega (arith, within))
one_below test (suc n) k all within = at (k == n) refl (and_parts (test n) (all_below test n) all) (one_below test n k)
  where
    at : (b : Bool) → (k == n) ≡ b → (test n ≡ true) × (all_below test n ≡ true) → (all_below test n ≡ true → k < n → test k ≡ true)
        → test k ≡ true
    at true e parts rest = let same : n ≡ k = grind (arith, nat_tests) in subst (λ j. test j ≡ true) same parts.0
    at false e parts rest = let less : k < n = grind (arith, nat_tests) in rest parts.1 less
