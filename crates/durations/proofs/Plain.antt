-- Values without dots.
use Rattle.std.proofs.Common.{◌≡◌, ℕ, zero, suc, ◌*◌, ◌/◌, ◌%◌, ◌≤◌, ◌<◌, refl, sym, ap, ◌∙◌, subst, ◌⊎◌, inl, inr, arith}
use Rattle.std.specs.Int.{IsPowerOfTwo, ◌∣◌}
use Rattle.std.proofs.Math.Nat.{dvd-mul_right, eq_of_mul-eq-mul_left, mul-le-mul_left, eq-or-lt_of_le}
use Rattle.std.proofs.lemmas.Nat.Gcd.{mod-eq-zero_of_dvd}
use Rattle.std.proofs.lemmas.Bool.{cases_lt}
use Rattle.durations.proofs.Powers.{power_some, power_below}
use Rattle.durations.specs.declared.value.Recip.{Recip}
use Rattle.durations.specs.declared.value.Recip.TheVariants.{Of, Breve, Long}
use Rattle.durations.specs.Values.{IsPlain}

-- where c does not divide b, and is neither 2 * b nor 4 * b, it is no value
pub not_plain : (c b : ℕ) → (b % c ≡ 0 → ⊥) → (c ≡ 2 * b → ⊥) → (c ≡ 4 * b → ⊥) → (r : Recip) → IsPlain c b r → ⊥
not_plain c b part two four (Of n) h = part (mod-eq-zero_of_dvd c (subst (λ x. c ∣ x) h (dvd-mul_right c n)))
not_plain c b part two four Breve h = two h
not_plain c b part two four Long h = four h

-- a part of b is neither 2 nor 4 times b
parts_within : (c b n : ℕ) → 1 ≤ b → c * n ≡ b → c ≤ b
parts_within c b zero some h = let e : c * 0 ≡ 0 = omega arith in absurd (omega (arith, h, e))
parts_within c b (suc n) some h = let e = mul-le-mul_left {m = 1} {n = suc n} c (omega arith) in omega (arith, h, e)

-- so many parts are one value without dots
pub plain_one : (c b : ℕ) (r s : Recip) → 1 ≤ c → 1 ≤ b → IsPlain c b r → IsPlain c b s → r ≡ s
plain_one c b (Of n) (Of m) some whole h k = ap Of (eq_of_mul-eq-mul_left c some n m (h ∙ sym k))
plain_one c b (Of n) Breve some whole h k = let e = parts_within c b n whole h in absurd (omega (arith, e, k))
plain_one c b (Of n) Long some whole h k = let e = parts_within c b n whole h in absurd (omega (arith, e, k))
plain_one c b Breve (Of n) some whole h k = let e = parts_within c b n whole k in absurd (omega (arith, e, h))
plain_one c b Breve Breve some whole h k = refl
plain_one c b Breve Long some whole h k = absurd (omega (arith, h, k))
plain_one c b Long (Of n) some whole h k = let e = parts_within c b n whole k in absurd (omega (arith, e, h))
plain_one c b Long Breve some whole h k = absurd (omega (arith, h, k))
plain_one c b Long Long some whole h k = refl

-- a power of two that is no value is above 1, since each part of a whole note is a value
pub not_one : (c b : ℕ) → IsPowerOfTwo c → ((r : Recip) → IsPlain c b r → ⊥) → 1 < c
not_one c b power none = go (cases_lt 1 c)
  where
    go : (1 < c) ⊎ (c ≤ 1) → 1 < c
    go (inl more) = more
    go (inr less) =
        let some = power_some c power in
        let one : c ≡ 1 = omega arith in
        let whole : 1 * b ≡ b = omega arith in
        absurd (none (Of b) (subst (λ x. x * b ≡ b) (sym one) whole))

-- and where each value is at most such a power, each is at most half of it
pub next_largest : (c b d : ℕ) (other : Recip) → IsPowerOfTwo c → ((r : Recip) → IsPlain c b r → ⊥) → IsPowerOfTwo d → IsPlain d b other → d ≤ c → d ≤ c / 2
next_largest c b d other power none h plain le = go (eq-or-lt_of_le le)
  where
    go : (d ≡ c) ⊎ (d < c) → d ≤ c / 2
    go (inl same) = absurd (none other (subst (λ x. IsPlain x b other) same plain))
    go (inr less) = power_below d c h power less
