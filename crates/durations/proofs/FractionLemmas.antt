-- A length in lowest terms is a fraction in lowest terms.
use Rattle.std.proofs.Common.{◌≡◌, ℕ, ◌*◌, ◌≤◌, sym, ap, ◌∙◌, subst, arith}
use Rattle.std.specs.Int.{◌∣◌}
use Rattle.std.proofs.Math.Nat.{dvd_of_mul-dvd-mul_right, mul-dvd-mul_right, one-dvd}
use Rattle.durations.proofs.LowestTerms.{divisor_of, lowest_some}
use Rattle.durations.specs.Values.{IsLowest}
use Rattle.durations.specs.Spans.{IsFrac}

pub frac_of_lowest : (n d a b : ℕ) → 1 ≤ d → IsLowest n d a b → IsFrac n d (record { num = a; den = b })
frac_of_lowest n d a b some (g, gcd, parts, whole) = record {
  value = ap (λ x. a * x) whole ∙ turned ∙ sym (ap (λ x. x * b) parts);
  some = lowest_some n d a b some (g, gcd, parts, whole);
  lowest = (one-dvd a, one-dvd b, common);
}
  where
    turned : a * (b * g) ≡ a * g * b
    turned = grind arith

    common : (e : ℕ) → e ∣ a → e ∣ b → e ∣ 1
    common e h k =
        let first : e * g ∣ n = subst (λ x. e * g ∣ x) (sym parts) (mul-dvd-mul_right e h g) in
        let second : e * g ∣ d = subst (λ x. e * g ∣ x) (sym whole) (mul-dvd-mul_right e k g) in
        let both : e * g ∣ 1 * g = subst (λ x. e * g ∣ x) (omega arith) (gcd.2 (e * g) first second) in
        dvd_of_mul-dvd-mul_right {k = g} e {n = 1} (divisor_of n d g some gcd) both
