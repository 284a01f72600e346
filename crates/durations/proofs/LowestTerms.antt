-- A fraction in lowest terms.
use Rattle.std.proofs.Common.{◌≡◌, ℕ, zero, suc, ◌*◌, ◌/◌, ◌≤◌, sym, ap, ◌∙◌, arith}
use Rattle.std.specs.Int.{IsGcd}
use Rattle.std.proofs.lemmas.Nat.Gcd.{same_from_IsGcd}
use Rattle.std.proofs.Math.Nat.{div-mul_cancel, eq_of_mul-eq-mul_right, eq-zero_of_zero-dvd, mul-le-mul_left}
use Rattle.durations.specs.Values.{IsLowest}

-- a divisor of a number above 0 is above 0
pub divisor_of : (len whole g : ℕ) → 1 ≤ whole → IsGcd len whole g → 1 ≤ g
divisor_of len whole zero some h = let e : whole ≡ zero = eq-zero_of_zero-dvd h.1 in omega (arith, e)
divisor_of len whole (suc g) some h = omega arith

pub divided : (len whole g : ℕ) → 1 ≤ whole → IsGcd len whole g → IsLowest len whole (len / g) (whole / g)
divided len whole g some h = (g, h, sym (div-mul_cancel g h.0), sym (div-mul_cancel g h.1))

-- a product above 0 has no factor 0
some_factor : (b g : ℕ) → 1 ≤ b * g → 1 ≤ b
some_factor zero g h = omega arith
some_factor (suc b) g h = omega arith

-- a factor is at most the product
factor_le : (b g : ℕ) → 1 ≤ g → b ≤ b * g
factor_le b g some = let e = mul-le-mul_left b some in omega (arith, e)

pub lowest_some : (len whole a b : ℕ) → 1 ≤ whole → IsLowest len whole a b → 1 ≤ b
lowest_some len whole a b some h = some_factor b h.0 (omega (arith, h.3))

pub lowest_parts : (len whole a b : ℕ) → 1 ≤ len → IsLowest len whole a b → 1 ≤ a
lowest_parts len whole a b some h = some_factor a h.0 (omega (arith, h.2))

pub lowest_few : (len whole a b : ℕ) → 1 ≤ whole → IsLowest len whole a b → b ≤ whole
lowest_few len whole a b some h = let e = factor_le b h.0 (divisor_of len whole h.0 some h.1) in omega (arith, e, h.3)

pub lowest_within : (len whole a b : ℕ) → 1 ≤ whole → IsLowest len whole a b → a ≤ len
lowest_within len whole a b some h = let e = factor_le a h.0 (divisor_of len whole h.0 some h.1) in omega (arith, e, h.2)

-- a length has one form in lowest terms
pub lowest_one : (len whole a b c d : ℕ) → 1 ≤ whole → IsLowest len whole a b → IsLowest len whole c d → (a ≡ c) × (b ≡ d)
lowest_one len whole a b c d some h k =
    let same : h.0 ≡ k.0 = same_from_IsGcd len whole h.0 k.0 h.1 k.1 in
    let positive = divisor_of len whole h.0 some h.1 in
    let first : a * h.0 ≡ c * h.0 = sym h.2 ∙ k.2 ∙ ap (λ x. c * x) (sym same) in
    let second : b * h.0 ≡ d * h.0 = sym h.3 ∙ k.3 ∙ ap (λ x. d * x) (sym same) in
    (eq_of_mul-eq-mul_right h.0 positive a c first, eq_of_mul-eq-mul_right h.0 positive b d second)
