-- The durations of notes are numbers that are read as they are written.
use Rattle.std.proofs.Common.{◌≡◌, ℕ, zero, suc, ◌-◌, ◌*◌, ◌^◌, ◌<◌, ◌≤◌, Some, sym, subst, arith}
use Rattle.std.specs.Prelude.{decimal}
use Rattle.std.proofs.Math.Nat.{le-mul_of_pos_right, mul-le-mul_left, mul-le-mul_right}
use Rattle.std.proofs.lemmas.Nat.{pow_pos}
use Rattle.rhythm_base.specs.declared.limits.TheConstants.{MOST_UNITS}
use Rattle.durations.specs.declared.value.Recip.{Recip}
use Rattle.durations.specs.declared.value.Recip.TheVariants.{Of, Breve, Long}
use Rattle.durations.specs.Value.{parts, plain_grid, plain_parts, value_grid}
use Rattle.durations.proofs.Wide.{some_parts, some_product}
use Rattle.text_words.proofs.TextNumbers.{number_back}
use Rattle.notation.specs.Notes.{Group, Note}
use Rattle.notation_laws.specs.Written.{IsHalvedPart, IsWrittenGroup, IsWrittenNote}
use Rattle.xml_laws.specs.Notes.{xml_number}

pub number_read : (n : ℕ) → 1 ≤ n → n < 2 ^ 32 → xml_number (decimal n) ≡ Some n
number_read n some few = number_back (2 ^ 32 - 1) n some (omega (arith, few)) (omega arith)

-- a value is at least one part of its grid, and at most seven times four
some_grid : (r : Recip) → IsHalvedPart r → 1 ≤ plain_grid r
some_grid (Of n) (k, few, is) = subst (λ m. 1 ≤ m) (sym is) (pow_pos k)
some_grid Breve is = omega arith
some_grid Long is = omega arith

plain_few : (r : Recip) → plain_parts r ≤ 4
plain_few (Of n) = omega arith
plain_few Breve = omega arith
plain_few Long = omega arith

dotted_some : (d : ℕ) → d ≤ 2 → 1 ≤ 2 * 2 ^ d - 1
dotted_some zero few = omega arith
dotted_some (suc zero) few = omega arith
dotted_some (suc (suc zero)) few = omega arith
dotted_some (suc (suc (suc d))) few = absurd (omega (arith, few))

dotted_few : (d : ℕ) → d ≤ 2 → 2 * 2 ^ d - 1 ≤ 7
dotted_few zero few = omega arith
dotted_few (suc zero) few = omega arith
dotted_few (suc (suc zero)) few = omega arith
dotted_few (suc (suc (suc d))) few = absurd (omega (arith, few))

pub at_most : (a b c d : ℕ) → a ≤ c → b ≤ d → a * b ≤ c * d
at_most a b c d first second =
    let one = mul-le-mul_right b first in
    let two = mul-le-mul_left c second in
    omega (arith, one, two)

product_zero : (d m : ℕ) → 1 ≤ d * m → 1 ≤ d
product_zero zero m h = let none : zero * m ≡ 0 = omega arith in absurd (omega (arith, h, none))
product_zero (suc d) m h = omega arith

module _ (r : ℕ) (units : 1 ≤ r) (few : r ≤ MOST_UNITS) (g : Group) (n : Note) (group : IsWrittenGroup r g)
    (is : IsWrittenNote r g.ratio n) where
  spelled : ℕ
  spelled = value_grid n.value * g.ratio.actual

  shown : ℕ
  shown = parts n.value * (64 * r * g.ratio.normal)

  spelled_some : 1 ≤ spelled
  unfolding spelled shown
  spelled_some = some_product (value_grid n.value) g.ratio.actual
      (some_product (plain_grid n.value.recip) (2 ^ n.value.dots) (some_grid n.value.recip is.value.part)
      (pow_pos n.value.dots)) group.some_actual

  shown_some : 1 ≤ shown
  unfolding spelled shown
  shown_some = some_product (parts n.value) (64 * r * g.ratio.normal)
      (some_product (plain_parts n.value.recip) (2 * 2 ^ n.value.dots - 1) (some_parts n.value.recip)
      (dotted_some n.value.dots is.value.dots))
      (some_product (64 * r) g.ratio.normal (omega (arith, units)) group.some_normal)

  shown_few : shown ≤ 28 * 58982400
  unfolding spelled shown
  shown_few =
      let actual = group.few_actual in
      let normal = group.few_normal in
      at_most (parts n.value) (64 * r * g.ratio.normal) 28 58982400
      (at_most (plain_parts n.value.recip) (2 * 2 ^ n.value.dots - 1) 4 7 (plain_few n.value.recip) (dotted_few n.value.dots is.value.dots))
      (at_most (64 * r) g.ratio.normal 61440 960 (omega (arith, few)) (omega (arith, actual, normal)))

  pub duration_some : 1 ≤ n.duration
  unfolding spelled shown
  duration_some = product_zero n.duration spelled (subst (λ m. 1 ≤ m) (sym is.long) shown_some)

  pub duration_few : n.duration < 2 ^ 32
  unfolding spelled shown
  duration_few =
      let whole = le-mul_of_pos_right n.duration spelled_some in
      let long : n.duration * spelled ≡ shown = is.long in
      let most = shown_few in
      omega (arith, whole, long, most)

  pub duration_number : xml_number (decimal n.duration) ≡ Some n.duration
  duration_number = number_read n.duration duration_some duration_few
