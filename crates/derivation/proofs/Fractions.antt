-- A fraction in lowest terms is one.
use Rattle.std.proofs.Common.{◌≡◌, ℕ, zero, suc, ◌+◌, ◌-◌, ◌*◌, ◌<◌, ◌≤◌, refl, sym, ap, ◌∙◌, subst, inl, inr, arith}
use Rattle.std.specs.Int.{IsGcd, ◌∣◌}
use Rattle.std.proofs.Math.Nat.{dvd-mul_left, dvd-sub, eq_of_mul-eq-mul_right, mul-sub, mul_comm}
use Rattle.std.proofs.lemmas.Bool.{cases_lt}
use Rattle.std.proofs.lemmas.Nat.Gcd.{IsGcd-from_sub, IsGcd-from_zero, IsGcd-swap, dvd_antisymm, same_from_IsGcd}
use Rattle.durations.proofs.ValuesExist.{lowest_exist}
use Rattle.rhythm_base.specs.declared.span.Frac.{Frac}
use Rattle.durations.specs.Spans.{IsFrac}
use Rattle.durations.proofs.FractionLemmas.{frac_of_lowest}

-- what divides the same multiple of two numbers divides that multiple of their greatest common divisor
abbrev IsShared : ℕ → ℕ → ℕ → Type 0
IsShared a b g = (c d : ℕ) → d ∣ c * a → d ∣ c * b → d ∣ c * g

-- a multiple of a difference
less : (a b c d : ℕ) → d ∣ c * a → d ∣ c * b → d ∣ c * (a - b)
less a b c d h k = subst (λ n. d ∣ n) (sym (mul-sub c a b)) (dvd-sub d h k)

euclid : (n a b : ℕ) → a + b ≤ n → (g : ℕ) × IsGcd a b g × IsShared a b g
euclid n a zero le = (a, IsGcd-from_zero a 0 refl, λ c d h k. h)
euclid n zero (suc b) le = (suc b, IsGcd-swap (suc b) 0 (suc b) (IsGcd-from_zero (suc b) 0 refl), λ c d h k. k)
euclid zero (suc a) (suc b) le = absurd (omega (arith, le))
euclid (suc n) (suc a) (suc b) le = elim (cases_lt a b) [
  | inl lt ↦ below lt (euclid n (suc a) (suc b - suc a) (omega (arith, le, lt)))
  | inr ge ↦ above ge (euclid n (suc a - suc b) (suc b) (omega (arith, le, ge)))
]
  where
    below : a < b → (g : ℕ) × IsGcd (suc a) (suc b - suc a) g × IsShared (suc a) (suc b - suc a) g → (g : ℕ) × IsGcd (suc a) (suc b) g × IsShared (suc a) (suc b) g
    below lt (g, is, shares) = (
      g,
      IsGcd-swap (suc b) (suc a) g (IsGcd-from_sub (suc b) (suc a) g (omega (arith, lt)) (IsGcd-swap (suc a) (suc b - suc a) g is)),
      λ c d h k. shares c d h (less (suc b) (suc a) c d k h),
    )

    above : b ≤ a → (g : ℕ) × IsGcd (suc a - suc b) (suc b) g × IsShared (suc a - suc b) (suc b) g → (g : ℕ) × IsGcd (suc a) (suc b) g × IsShared (suc a) (suc b) g
    above le (g, is, shares) = (g, IsGcd-from_sub (suc a) (suc b) g (omega (arith, le)) is, λ c d h k. shares c d (less (suc a) (suc b) c d h k) k)

-- what has no common divisor with a factor of a product divides the other factor
divides_other : (a b c : ℕ) → IsGcd a b 1 → b ∣ a * c → b ∣ c
divides_other a b c one h =
    let found = euclid (a + b) a b (omega arith) in
    let same : found.0 ≡ 1 = same_from_IsGcd a b found.0 1 found.1 one in
    let product : c * found.0 ≡ c = ap (λ n. c * n) same ∙ omega arith in
    subst (λ n. b ∣ n) product (found.2 c b (subst (λ n. b ∣ n) (mul_comm a c) h) (dvd-mul_left b c))

-- two fractions in lowest terms of one value are one
pub frac_one : (n d : ℕ) (f g : Frac) → 1 ≤ d → IsFrac n d f → IsFrac n d g → f ≡ g
frac_one n d f g some h k = λ i. record { num = nums i; den = dens i }
  where
    crossed : f.num * g.den * d ≡ g.num * f.den * d
    crossed =
        let one : f.num * g.den * d ≡ f.num * d * g.den = grind arith in
        let two : g.num * f.den * d ≡ g.num * d * f.den = grind arith in
        let turned : n * f.den * g.den ≡ n * g.den * f.den = grind arith in
        one ∙ ap (λ x. x * g.den) h.value ∙ turned ∙ sym (ap (λ x. x * f.den) k.value) ∙ sym two

    cross : f.num * g.den ≡ g.num * f.den
    cross = eq_of_mul-eq-mul_right d some (f.num * g.den) (g.num * f.den) crossed

    dens : f.den ≡ g.den
    dens =
        let there : f.den ∣ f.num * g.den = subst (λ x. f.den ∣ x) (sym cross) (dvd-mul_left f.den g.num) in
        let back : g.den ∣ g.num * f.den = subst (λ x. g.den ∣ x) cross (dvd-mul_left g.den f.num) in
        dvd_antisymm (divides_other f.num f.den g.den h.lowest there) (divides_other g.num g.den f.den k.lowest back)

    nums : f.num ≡ g.num
    nums = eq_of_mul-eq-mul_right f.den h.some f.num g.num (ap (λ x. f.num * x) dens ∙ cross)

-- and each fraction has lowest terms
pub frac_exist : (n d : ℕ) → 1 ≤ d → (f : Frac) × IsFrac n d f
frac_exist n d some = let low = lowest_exist n d some in (record { num = low.0; den = low.1 }, frac_of_lowest n d low.0 low.1 some low.2)
