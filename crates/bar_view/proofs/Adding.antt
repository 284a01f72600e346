-- A view that goes on past one more chord.
use Rattle.std.proofs.Common.{◌≡◌, ℕ, suc, ◌<◌, ◌≤◌, ◌+◌, ◌*◌, ◌++◌, ◌↔◌, [], ◌∷◌, length, max, get_or, sym, ap, ◌∙◌, subst, arith, inl, inr}
use Rattle.std.proofs.Math.Nat.{mul-le-mul_right}
use Rattle.std.proofs.Math.Seq.{get_or-append_seam}
use Rattle.std.proofs.lemmas.Bool.{cases_lt}
use Rattle.std.proofs.lemmas.List.{get_or_append_left, length-append}
use Rattle.rhythm_base.specs.declared.inner.Inner.{Inner}
use Rattle.rhythm_base.specs.BarInput.{BarInput, IsBarInput}
use Rattle.bar_view.specs.Points.{IsPoint}
use Rattle.bar_view.specs.Units.{SplitsAt, end_of_earlier}
use Rattle.bar_view.specs.Views.{AreHalves, IsViewTo}
use Rattle.bar_view.specs.declared.point.Point.{Point}
use Rattle.bar_view.specs.declared.view.View.{View}
use Rattle.bar_view.proofs.Leaves.{onsets-rise}

-- an onset lies in a unit of the bar
pub unit-within : (t r l : ℕ) (p : Point) → IsPoint l (t * r) p → t < l → 1 ≤ r → p.unit < r
unit-within t r l p point inside some = elim (cases_lt p.unit r) [
  | inl less ↦ less
  | inr past ↦
      let one : r * l ≤ p.unit * l = mul-le-mul_right l past in
      let two : (t + 1) * r ≤ l * r = mul-le-mul_right r (omega arith) in
      let three : (t + 1) * r ≡ t * r + r = grind arith in
      let turned : l * r ≡ r * l = grind arith in
      absurd (omega (arith, one, two, three, turned, point.sum, some))
]

module _ (k : BarInput) (cell : IsBarInput k) (n : ℕ) (v : View) (view : IsViewTo k n v) where
  -- the units from there on to that in which the next chord begins
  pub splits-on : (within : n < length k.chords) (d : Inner) (p : Point) → IsPoint k.length ((get_or k.chords n d).onset * k.resolution) p
      → (u : ℕ) → length v.units.below.items ≤ u → u ≤ p.unit → SplitsAt k u n
  splits-on within d p point u low high = record {
    within = omega (arith, within);
    low = λ i e less.
        let past = view.past i e less in
        let wider : length v.units.below.items * k.length ≤ u * k.length = mul-le-mul_right k.length low in
        omega (arith, past, wider);
    high = λ i e from less.
        let wider : u * k.length ≤ p.unit * k.length = mul-le-mul_right k.length high in
        let later = onsets-rise k cell n i d e from less in
        omega (arith, wider, later, point.sum);
  }

  -- and to the end of the bar, past the last chord
  pub splits-last : n ≡ length k.chords → (u : ℕ) → length v.units.below.items ≤ u → SplitsAt k u n
  splits-last all u low = record {
    within = omega (arith, all);
    low = λ i e less.
        let past = view.past i e less in
        let wider : length v.units.below.items * k.length ≤ u * k.length = mul-le-mul_right k.length low in
        omega (arith, past, wider);
    high = λ i e from less. absurd (omega (arith, all, from, less));
  }

  -- its onset is before the units that follow
  pub past-on : (d : Inner) (p : Point) (many : ℕ) → IsPoint k.length ((get_or k.chords n d).onset * k.resolution) p → n < length k.chords → many ≡ max (length v.units.below.items) (p.unit + 1)
      → (i : ℕ) (e : Inner) → i < n + 1 → (get_or k.chords i e).onset * k.resolution < many * k.length
  past-on d p many point within is i e less =
      let wider : (p.unit + 1) * k.length ≤ many * k.length = mul-le-mul_right k.length (omega (arith, is)) in
      let sum : (p.unit + 1) * k.length ≡ p.unit * k.length + k.length = grind arith in
      let order = onsets-rise k cell i n e d (omega (arith, less)) within in
      omega (arith, wider, sum, order, point.sum, point.inside)

  pub halves-on : (within : n < length k.chords) (d chord : Inner) → get_or k.chords n d ≡ chord → (x y : ℕ)
      → ((half : ℕ) → (x ≤ half) ↔ (2 * (chord.onset * k.resolution) ≤ half * k.length))
      → ((half : ℕ) → (half ≤ y) ↔ (half * k.length ≤ 2 * (chord.end * k.resolution)))
      → ((e : Inner) → get_or k.chords n e ≡ chord)
      → AreHalves k (n + 1) (v.halves.items ++ x ∷ []) (v.sounding.items ++ y ∷ [])
  halves-on within d chord is x y halves sounding each =
      let old = view.halves in
      let long_left = length-append v.halves.items (x ∷ []) in
      let long_right = length-append v.sounding.items (y ∷ []) in
      let many : length v.halves.items ≡ n = old.halves_long in
      let more : length v.sounding.items ≡ n + 1 = old.sounding_long in
      record {
        halves_long = omega (arith, long_left, many);
        halves = λ i middle e less. elim (cases_lt i n) [
          | inl low ↦
              let at : get_or v.halves.items i 0 ≡ get_or (v.halves.items ++ x ∷ []) i 0 = sym (get_or_append_left v.halves.items (x ∷ []) 0 i (omega (arith, low, many))) in
              subst (λ h. (h ≤ middle) ↔ (2 * ((get_or k.chords i e).onset * k.resolution) ≤ middle * k.length)) at (old.halves i middle e low)
          | inr far ↦
              let last : length v.halves.items ≡ i = omega (arith, far, less, many) in
              let here : n ≡ i = omega (arith, far, less) in
              let at : x ≡ get_or (v.halves.items ++ x ∷ []) i 0 = sym (get_or-append_seam v.halves.items x [] 0) ∙ ap (λ j. get_or (v.halves.items ++ x ∷ []) j 0) last in
              let own : chord ≡ get_or k.chords i e = sym (each e) ∙ ap (λ j. get_or k.chords j e) here in
              subst (λ h. (h ≤ middle) ↔ (2 * ((get_or k.chords i e).onset * k.resolution) ≤ middle * k.length)) at
              (subst (λ (c : Inner). (x ≤ middle) ↔ (2 * (c.onset * k.resolution) ≤ middle * k.length)) own (halves middle))
        ];
        sounding_long = omega (arith, long_right, more);
        sounding = λ i middle e less. elim (cases_lt i (n + 1)) [
          | inl low ↦
              let at : get_or v.sounding.items i 0 ≡ get_or (v.sounding.items ++ y ∷ []) i 0 = sym (get_or_append_left v.sounding.items (y ∷ []) 0 i (omega (arith, low, more))) in
              subst (λ h. (middle ≤ h) ↔ (middle * k.length ≤ 2 * (end_of_earlier k i e * k.resolution))) at (old.sounding i middle e (omega (arith, low)))
          | inr far ↦
              let last : length v.sounding.items ≡ i = omega (arith, far, less, more) in
              let here : suc n ≡ i = omega (arith, far, less) in
              let at : y ≡ get_or (v.sounding.items ++ y ∷ []) i 0 = sym (get_or-append_seam v.sounding.items y [] 0) ∙ ap (λ j. get_or (v.sounding.items ++ y ∷ []) j 0) last in
              let own : chord.end ≡ end_of_earlier k i e = sym (ap (λ (c : Inner). c.end) (each e)) ∙ ap (λ j. end_of_earlier k j e) here in
              subst (λ h. (middle ≤ h) ↔ (middle * k.length ≤ 2 * (end_of_earlier k i e * k.resolution))) at
              (subst (λ m. (middle ≤ y) ↔ (middle * k.length ≤ 2 * (m * k.resolution))) own (sounding middle))
        ];
      }
