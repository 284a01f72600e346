-- Equal quotients have one fraction in lowest terms.
use Rattle.std.proofs.Common.{◌≡◌, ℕ, ◌*◌, ◌≤◌, ap, ◌∙◌, arith}
use Rattle.std.proofs.Math.Nat.{eq_of_mul-eq-mul_right}
use Rattle.rhythm_base.specs.declared.span.Frac.{Frac}
use Rattle.durations.specs.Spans.{IsFrac}

-- a fraction is one of all equal quotients
pub frac_same : (a b c d : ℕ) (f : Frac) → 1 ≤ b → a * d ≡ c * b → IsFrac a b f → IsFrac c d f
frac_same a b c d f some same is = record {
  value = eq_of_mul-eq-mul_right b some (f.num * d) (c * f.den) whole;
  some = is.some;
  lowest = is.lowest;
}
  where
    whole : f.num * d * b ≡ c * f.den * b
    whole = first f.num d b ∙ ap (λ x. x * d) is.value ∙ first a f.den d ∙ ap (λ x. x * f.den) same ∙ first c b f.den
      where
        first : (x y z : ℕ) → x * y * z ≡ x * z * y
        first x y z = grind arith
