-- The greatest common divisor of two numbers.
use Rattle.std.proofs.Common.{◌≡◌, ℕ, zero, suc, ◌%◌, ◌<◌, ◌≤◌, ◌==◌, Bool, true, false, refl, arith}
use Rattle.std.specs.Prelude.{if◌then◌else◌}
use Rattle.std.specs.Int.{IsGcd, ◌∣◌}
use Rattle.std.proofs.Math.Nat.{zero-dvd}
use Rattle.std.proofs.lemmas.Bool.Decides.{nat_tests}
use Rattle.std.proofs.lemmas.Nat.Gcd.{IsGcd-from_mod, IsGcd-from_zero, le_of_dvd}
use Rattle.text_words.specs.Divisors.{gcd, gcd_within}

gcd_within_is : (steps a b : ℕ) → b < steps → IsGcd a b (gcd_within steps a b)
gcd_within_is zero a b few = absurd (omega (arith, few))
gcd_within_is (suc steps) a b few = at (b == 0) refl (λ less. gcd_within_is steps b (a % b) less)
  where
    at : (t : Bool) → (b == 0) ≡ t → (a % b < steps → IsGcd b (a % b) (gcd_within steps b (a % b))) → IsGcd a b (if t then a else gcd_within steps b (a % b))
    at true e rest = IsGcd-from_zero a b (grind (arith, nat_tests))
    at false e rest = let some : 0 < b = grind (arith, nat_tests) in IsGcd-from_mod a b _ (rest (omega arith))

pub gcd_is : (a b : ℕ) → IsGcd a b (gcd a b)
unfolding gcd
gcd_is a b = gcd_within_is (suc b) a b (omega arith)

-- it is at least 1 and at most the second number
pub gcd_some : (a b : ℕ) → 1 ≤ b → (1 ≤ gcd a b) × (gcd a b ≤ b)
gcd_some a b some =
    let is = gcd_is a b in
    (positive (gcd a b) b some is.1, le_of_dvd some is.1)
  where
    positive : (d n : ℕ) → 1 ≤ n → d ∣ n → 1 ≤ d
    positive zero n some divides = let e : n ≡ zero = (zero-dvd {n = n}).0 divides in absurd (omega arith)
    positive (suc d) n some divides = omega arith
