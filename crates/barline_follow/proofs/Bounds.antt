-- How long and how dear the bars are that are offered.
use Rattle.std.proofs.Common.{◌≡◌, ℕ, zero, suc, ◌+◌, ◌-◌, ◌*◌, ◌%◌, ◌<◌, ◌≤◌, inl, inr, true, List, [], ◌∷◌, length, get_or, min, refl, ap, sym, ◌∙◌, subst, arith}
use Rattle.std.specs.Prelude.{All, Contains, nat_le, Some}
use Rattle.std.specs.List.{flat_map, range_with_len}
use Rattle.std.proofs.Math.Nat.{div-add-mod, mul-le-mul}
use Rattle.std.proofs.lemmas.Bool.Decides.{nat_tests}
use Rattle.std.proofs.lemmas.List.Elements.{Contains-append_cases, Contains-get_or}
use Rattle.std.proofs.lemmas.Option.{slice_get-get_or}
use Rattle.rhythm_base.proofs.Booleans.{and_left}
use Rattle.rhythm_base.specs.declared.note.Bar.{Bar}
use Rattle.rhythm_base.specs.Barlines.{nominal, nominal_of}
use Rattle.rhythm_base.specs.Grammar.{Grammar}
use Rattle.rhythm_base.specs.Performance.{IsBarOf, IsWellFormed, Performance}
use Rattle.rhythm_base.specs.Readable.{IsInRange}
use Rattle.tree_laws.proofs.Bars.{times_wide}
use Rattle.barline_follow.specs.declared.offers.Offer.{Offer}
use Rattle.barline_follow.specs.Bars.{bar_step, pattern_of, whole_bar}
use Rattle.barline_follow.specs.Offers.{AreOffers, in_tempo, is_offered, onset_weight, proposals, proposals_at, proposed, most_steps}
use Rattle.barline_follow.specs.Courses.{dearest_bar}
use Rattle.barline_follow.proofs.FirstLeast.{from_filtered, got_contained, none_contained, passes_filtered}
use Rattle.barline_follow.proofs.Gathering.{contained_map}

-- ---- lists of lists

module _ {X Y : Type 0} (f : X → List Y) where
  pub from_rows : (xs : List X) (y : Y) → Contains (flat_map f xs) y → (x : X) × Contains xs x × Contains (f x) y
  from_rows [] y c = absurd (none_contained y c)
  from_rows (x ∷ xs) y c = elim (Contains-append_cases (f x) (flat_map f xs) y c) [
    | inl own ↦ (x, (zero, omega arith, refl), own)
    | inr others ↦ let rest = from_rows xs y others in (rest.0, (suc rest.1.0, omega (arith, rest.1.1), rest.1.2), rest.2)
  ]

in_range : (a n k : ℕ) → Contains (range_with_len a n) k → k < a + n
in_range a zero k c = absurd (none_contained k c)
in_range a (suc n) k (zero, lt, is) = omega (arith, is)
in_range a (suc n) k (suc i, lt, is) = let rest = in_range (a + 1) n k (i, omega (arith, lt), is) in omega (arith, rest)

-- ---- a whole bar has a tick

whole : (division last : ℕ) (b : Bar) → 1 ≤ division → IsBarOf division last b → 1 ≤ nominal division b
whole division last b some h = by (nominal division b) refl
  where
    by : (n : ℕ) → nominal division b ≡ n → 1 ≤ n
    by zero e =
        let parts : b.den * (nominal division b) + (4 * division * b.num) % b.den ≡ 4 * division * b.num = div-add-mod (4 * division * b.num) b.den in
        let none : 4 * division * b.num ≡ 0 = sym parts ∙ (λ i. b.den * (e i) + h.whole i) ∙ omega arith in
        let positive : 1 ≤ 4 * division * b.num = times_wide (4 * division) b.num (omega (arith, some)) h.signature.some in
        absurd (omega (arith, none, positive))
    by (suc n) e = omega arith

pub some_tick : (p : Performance) (i : ℕ) → IsWellFormed p → 1 ≤ whole_bar p i
some_tick p i formed =
    let k : ℕ = min i (length p.bars - 1) in
    let none : Bar = record { start = 0; num = 0; den = 0 } in
    let within : k < length p.bars = omega (arith, formed.some_bar) in
    let is : pattern_of p i ≡ Some (get_or p.bars k none) = slice_get-get_or p.bars k none within in
    subst (λ n. 1 ≤ n) (sym (ap (nominal_of p.division) is)) (whole p.division p.last (get_or p.bars k none) formed.division_low (formed.bars k none within))

-- ---- what is offered

module _ (g : Grammar) (p : Performance) (ranges : IsInRange g) (formed : IsWellFormed p) (i before : ℕ) where
  few_steps : (i : ℕ) → most_steps i ≤ 12
  few_steps zero = omega arith
  few_steps (suc i) = omega arith

  price_is : (weight w t step k : ℕ) (o : Offer) → Contains (proposed weight w t step k) o → o.price ≡ 6 * weight * (k * k)
  price_is weight w t step k o c =
      let from = contained_map (λ (ticks : ℕ). record { price = 6 * weight * (k * k); ticks = ticks }) ((w - k * step) ∷ (w + k * step) ∷ (t - k * step) ∷ (t + k * step) ∷ []) o c in
      ap (λ (x : Offer). x.price) (sym from.2)

  pub offer_bounded : (o : Offer) → Contains (proposals g p i before) o → (1 ≤ o.ticks) × (o.price ≤ dearest_bar)
  offer_bounded o c =
      let w : ℕ = whole_bar p i in
      let rows : List Offer = flat_map (proposals_at g p i before) (range_with_len 0 (most_steps i + 1)) in
      let passes : is_offered w o ≡ true = passes_filtered (is_offered w) rows o c in
      let long : nat_le w (2 * o.ticks) ≡ true = and_left (nat_le w (2 * o.ticks)) _ passes in
      let some = some_tick p i formed in
      let row = from_rows (proposals_at g p i before) (range_with_len 0 (most_steps i + 1)) o (from_filtered (is_offered w) rows o c) in
      let k : ℕ = row.0 in
      let steps = in_range 0 (most_steps i + 1) k row.1 in
      let few : k ≤ 12 = omega (arith, steps, few_steps i) in
      let price = price_is (onset_weight g) w (in_tempo p i before) (bar_step p i) k o row.2 in
      let light : onset_weight g ≤ 1000 = omega (arith, ranges.early, ranges.late) in
      let square : k * k ≤ 12 * 12 = mul-le-mul few few in
      let heavy : 6 * onset_weight g ≤ 6000 = omega (arith, light) in
      let most : (6 * onset_weight g) * (k * k) ≤ 6000 * (12 * 12) = mul-le-mul heavy square in
      let ticks : 1 ≤ o.ticks = grind (arith, nat_tests, long, some) in
      (ticks, omega (arith, price, most))

  pub offers_bounded : (offers : List Offer) → AreOffers g p i before offers → All (λ o. (1 ≤ o.ticks) × (o.price ≤ dearest_bar)) offers
  offers_bounded offers are k d lt =
      let first = (are.exactly (get_or offers k d)).0 (Contains-get_or offers k d lt) in
      offer_bounded (get_or offers k d) (got_contained (proposals g p i before) first.place (get_or offers k d) first.there)
