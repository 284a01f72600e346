-- What is looked up in the view of a cell.
use Rattle.std.proofs.Common.{◌≡◌, ℕ, ◌<◌, ◌≤◌, ◌+◌, ◌-◌, ◌*◌, Bool, true, false, take, drop, length, get_or, sym, ap, ap₂, ◌∙◌, subst, arith, inl, inr}
use Rattle.std.proofs.lemmas.Bool.{cases_lt}
use Rattle.std.proofs.lemmas.List.{get_or_default}
use Rattle.rhythm_base.specs.declared.inner.Inner.{Inner}
use Rattle.rhythm_base.specs.BarInput.{BarInput, IsBarInput}
use Rattle.rhythm_base.specs.Grammar.{Grammar}
use Rattle.row_laws.specs.Leaves.{HasLeaf}
use Rattle.bar_view.specs.Displaced.{displacements}
use Rattle.bar_view.specs.Units.{SplitsAt, end_of_earlier}
use Rattle.bar_view.specs.Views.{IsViewOf}
use Rattle.bar_view.specs.declared.view.View.{View}
use Rattle.bar_view.proofs.Charges.{charges-so}
use Rattle.bar_view.proofs.Leaves.{next-chords, next-count, onsets-rise, own-chords, own-count, sounds-so}

module _ (k : BarInput) (v : View) (view : IsViewOf k v) where
  pub split-read : (u i x : ℕ) → u ≤ k.resolution → i ≡ u → x ≡ get_or v.units.below.items i x → SplitsAt k u x
  split-read u i x within at is =
      let low : u < length v.units.below.items = omega (arith, within, view.whole) in
      let same : get_or v.units.below.items u 0 ≡ x = get_or_default v.units.below.items u 0 x low ∙ sym (is ∙ ap (λ i. get_or v.units.below.items i x) at) in
      subst (SplitsAt k u) same (view.units.below u low)

  pub halves-left : (a m middle : ℕ) → m ≤ length k.chords → ((i : ℕ) → a ≤ i → i < m → get_or v.halves.items i 0 ≤ middle)
      → (i : ℕ) (d : Inner) → a ≤ i → i < m → 2 * ((get_or k.chords i d).onset * k.resolution) ≤ middle * k.length
  halves-left a m middle within own i d low high = (view.halves.halves i middle d (omega (arith, high, within))).0 (own i low high)

  pub halves-right : IsBarInput k → (m b middle : ℕ) → b ≤ length k.chords → (m < b → middle < get_or v.halves.items m 0)
      → (i : ℕ) (d : Inner) → m ≤ i → i < b → middle * k.length < 2 * ((get_or k.chords i d).onset * k.resolution)
  halves-right cell m b middle within next i d low high =
      let first : middle * k.length < 2 * ((get_or k.chords m d).onset * k.resolution) = elim (cases_lt (middle * k.length) (2 * ((get_or k.chords m d).onset * k.resolution))) [
        | inl less ↦ less
        | inr le ↦
            let back = (view.halves.halves m middle d (omega (arith, low, high, within))).1 le in
            let past = next (omega (arith, low, high)) in
            absurd (omega (arith, back, past))
      ] in
      let order = onsets-rise k cell m i d d low (omega (arith, high, within)) in
      omega (arith, first, order)

  pub sounds-on : (m middle y : ℕ) (d : Inner) → m ≤ length k.chords → y ≡ get_or v.sounding.items m y → middle ≤ y → middle * k.length ≤ 2 * (end_of_earlier k m d * k.resolution)
  sounds-on m middle y d within is h =
      let low : m < length v.sounding.items = omega (arith, within, view.halves.sounding_long) in
      let same = is ∙ get_or_default v.sounding.items m y 0 low in
      (view.halves.sounding m middle d within).0 (omega (arith, h, same))

  pub sounds-off : (m middle y : ℕ) (d : Inner) → m ≤ length k.chords → y ≡ get_or v.sounding.items m y → y < middle → 2 * (end_of_earlier k m d * k.resolution) < middle * k.length
  sounds-off m middle y d within is h =
      let low : m < length v.sounding.items = omega (arith, within, view.halves.sounding_long) in
      let same = is ∙ get_or_default v.sounding.items m y 0 low in
      elim (cases_lt (2 * (end_of_earlier k m d * k.resolution)) (middle * k.length)) [
        | inl less ↦ less
        | inr le ↦ let on = (view.halves.sounding m middle d within).1 le in absurd (omega (arith, on, h, same))
      ]

-- the leaf, by the places of its chords and those that are attached to it
pub leaf-known : (g : Grammar) (k : BarInput) (p w a b m : ℕ) → g.resolution ≡ k.resolution → SplitsAt k p a → SplitsAt k (p + w) b → a ≤ m → m ≤ b
    → ((i : ℕ) (d : Inner) → a ≤ i → i < m → 2 * ((get_or k.chords i d).onset * k.resolution) ≤ (2 * p + w) * k.length)
    → ((i : ℕ) (d : Inner) → m ≤ i → i < b → (2 * p + w) * k.length < 2 * ((get_or k.chords i d).onset * k.resolution))
    → m - a ≤ 4 → b - m ≤ 4
    → (x : Bool) (d : Inner) → (x ≡ true → (2 * p + w) * k.length ≤ 2 * (end_of_earlier k m d * k.resolution)) → (x ≡ false → 2 * (end_of_earlier k m d * k.resolution) < (2 * p + w) * k.length)
    → (cost late early : ℕ) → cost ≡ g.late * late + g.early * early → late ≡ displacements k p (take (m - a) (drop a k.chords)) → early ≡ displacements k (p + w) (take (b - m) (drop m k.chords))
    → HasLeaf g k p w (m - a) (b - m) x cost
leaf-known g k p w a b m units first last low high left right few fewer x d on off cost late early sum is_late is_early = record {
  own_chords = sym (own-count k p w a b first last m low high left right);
  next_chords = sym (next-count k p w a b first last m low high left right);
  few_own = few;
  few_next = fewer;
  sounds = sounds-so k p w a b first last m low high left right d x on off;
  charged =
      sum
      ∙ ap₂ (λ s t. g.late * s + g.early * t) (is_late ∙ ap (displacements k p) (sym (own-chords k p w a b first last m low high left right)))
      (is_early ∙ ap (displacements k (p + w)) (sym (next-chords k p w a b first last m low high left right)))
      ∙ sym (charges-so g k p w units);
}
