-- How many lengths are offered, and how many tables a round builds.
use Rattle.std.proofs.Common.{◌≡◌, ℕ, zero, suc, ◌+◌, ◌-◌, ◌*◌, ◌≤◌, inl, inr, List, [], ◌∷◌, length, refl, ap, sym, ◌∙◌, subst, arith}
use Rattle.std.specs.Prelude.{Contains}
use Rattle.std.specs.List.{flat_map, range_with_len}
use Rattle.std.proofs.Math.Nat.{mul-le-mul_right}
use Rattle.std.proofs.lemmas.List.{length-append, length-map}
use Rattle.std.proofs.lemmas.List.Elements.{Contains-append_cases, Contains-append_left, Contains-append_right}
use Rattle.rhythm_base.specs.Grammar.{Grammar}
use Rattle.rhythm_base.specs.Lists.{Each}
use Rattle.rhythm_base.specs.Performance.{Performance}
use Rattle.barline_follow.specs.declared.next_bar.NextBar.{NextBar}
use Rattle.barline_follow.specs.declared.offers.Offer.{Offer}
use Rattle.barline_follow.specs.Barring.{Course, barring_end, last_length}
use Rattle.barline_follow.specs.Bars.{bar_step, whole_bar}
use Rattle.barline_follow.specs.Builds.{most_lengths, most_lists}
use Rattle.barline_follow.specs.Least.{AreFirstLeast}
use Rattle.barline_follow.specs.NextBars.{AreTriedOffers, all_cells, can_be, cells}
use Rattle.barline_follow.specs.Offers.{AreOffers, in_tempo, is_offered, onset_weight, proposals, proposed}
use Rattle.barline_follow.specs.Courses.{cell}
use Rattle.barline_follow.proofs.ApartTicks.{kept_apart, no_more}
use Rattle.barline_follow.proofs.FirstLeast.{from_filtered, got_contained}
use Rattle.rhythm_base.proofs.ListParts.{filter_few}

module _ {X : Type 0} (value tick : X → ℕ) where
  few_kept : (xs kept : List X) (ticks : List ℕ) → AreFirstLeast value tick xs kept → ((x : X) → Contains xs x → Contains ticks (tick x))
      → length kept ≤ length ticks
  few_kept xs kept ticks h all =
      no_more tick kept ticks (kept_apart value tick xs kept h)
      (λ x c. let is = (h.exactly x).0 c in all x (got_contained xs is.place x is.there))

-- ---- the lengths that are offered

-- what holds of each of four holds of one of them
one_of_four : {X : Type 0} (P : X → Type 0) (a b c d x : X) → P a → P b → P c → P d → Contains (a ∷ b ∷ c ∷ d ∷ []) x → P x
one_of_four P a b c d x pa pb pc pd (zero, lt, is) = subst P is pa
one_of_four P a b c d x pa pb pc pd (suc zero, lt, is) = subst P is pb
one_of_four P a b c d x pa pb pc pd (suc (suc zero), lt, is) = subst P is pc
one_of_four P a b c d x pa pb pc pd (suc (suc (suc zero)), lt, is) = subst P is pd
one_of_four P a b c d x pa pb pc pd (suc (suc (suc (suc k))), lt, is) = absurd (omega (arith, lt))

module _ (whole tempo step : ℕ) where
  -- the lengths of so many steps
  abbrev lengths : ℕ → List ℕ
  lengths zero = whole ∷ tempo ∷ []
  lengths (suc k) = (whole - suc k * step) ∷ (whole + suc k * step) ∷ (tempo - suc k * step) ∷ (tempo + suc k * step) ∷ []

  -- where the tempo is that of a whole bar
  abbrev first_lengths : ℕ → List ℕ
  first_lengths zero = whole ∷ []
  first_lengths (suc k) = (whole - suc k * step) ∷ (whole + suc k * step) ∷ []

  in_lengths : (weight k : ℕ) (o : Offer) → Contains (proposed weight whole tempo step k) o → Contains (lengths k) o.ticks
  in_lengths weight zero o c =
      let down : whole - 0 * step ≡ whole = omega arith in
      let up : whole + 0 * step ≡ whole = omega arith in
      let slow : tempo - 0 * step ≡ tempo = omega arith in
      let fast : tempo + 0 * step ≡ tempo = omega arith in
      one_of_four (λ (o : Offer). Contains (whole ∷ tempo ∷ []) o.ticks) _ _ _ _ o
      (0, omega arith, sym down) (0, omega arith, sym up) (1, omega arith, sym slow) (1, omega arith, sym fast) c
  in_lengths weight (suc k) o c =
      one_of_four (λ (o : Offer). Contains (lengths (suc k)) o.ticks) _ _ _ _ o
      (0, omega arith, refl) (1, omega arith, refl) (2, omega arith, refl) (3, omega arith, refl) c

in_first_lengths : (whole step weight k : ℕ) (o : Offer) → Contains (proposed weight whole whole step k) o → Contains (first_lengths whole whole step k) o.ticks
in_first_lengths whole step weight zero o c =
    let down : whole - 0 * step ≡ whole = omega arith in
    let up : whole + 0 * step ≡ whole = omega arith in
    one_of_four (λ (o : Offer). Contains (whole ∷ []) o.ticks) _ _ _ _ o
    (0, omega arith, sym down) (0, omega arith, sym up) (0, omega arith, sym down) (0, omega arith, sym up) c
in_first_lengths whole step weight (suc k) o c =
    one_of_four (λ (o : Offer). Contains (first_lengths whole whole step (suc k)) o.ticks) _ _ _ _ o
    (0, omega arith, refl) (1, omega arith, refl) (0, omega arith, refl) (1, omega arith, refl) c

-- row by row
in_rows : (f : ℕ → List Offer) (h : ℕ → List ℕ) → ((k : ℕ) (o : Offer) → Contains (f k) o → Contains (h k) o.ticks) → (ks : List ℕ) (o : Offer)
    → Contains (flat_map f ks) o → Contains (flat_map h ks) o.ticks
in_rows f h each [] o c = absurd (omega (arith, c.1))
in_rows f h each (k ∷ ks) o c = elim (Contains-append_cases (f k) (flat_map f ks) o c) [
  | inl own ↦ Contains-append_left (h k) (flat_map h ks) o.ticks (each k o own)
  | inr rest ↦ Contains-append_right (h k) (flat_map h ks) o.ticks (in_rows f h each ks o rest)
]

long_first : (whole step : ℕ) → length (flat_map (first_lengths whole whole step) (range_with_len 0 13)) ≡ 25
long_first whole step = refl

long_later : (whole tempo step : ℕ) → length (flat_map (lengths whole tempo step) (range_with_len 0 4)) ≡ 14
long_later whole tempo step = refl

pub few_offers : (g : Grammar) (p : Performance) (i before : ℕ) (offers : List Offer) → AreOffers g p i before offers → length offers ≤ most_lengths i
few_offers g p zero before offers h =
    let whole : ℕ = whole_bar p 0 in
    let step : ℕ = bar_step p 0 in
    let f : ℕ → List Offer = proposed (onset_weight g) whole whole step in
    subst (λ n. length offers ≤ n) (long_first whole step)
    (few_kept (λ (o : Offer). o.price) (λ (o : Offer). o.ticks) (proposals g p 0 before) offers (flat_map (first_lengths whole whole step) (range_with_len 0 13)) h
    (λ o c. in_rows f (first_lengths whole whole step) (in_first_lengths whole step (onset_weight g)) (range_with_len 0 13) o
    (from_filtered (is_offered whole) (flat_map f (range_with_len 0 13)) o c)))
few_offers g p (suc i) before offers h =
    let whole : ℕ = whole_bar p (suc i) in
    let tempo : ℕ = in_tempo p (suc i) before in
    let step : ℕ = bar_step p (suc i) in
    let f : ℕ → List Offer = proposed (onset_weight g) whole tempo step in
    subst (λ n. length offers ≤ n) (long_later whole tempo step)
    (few_kept (λ (o : Offer). o.price) (λ (o : Offer). o.ticks) (proposals g p (suc i) before) offers (flat_map (lengths whole tempo step) (range_with_len 0 4)) h
    (λ o c. in_rows f (lengths whole tempo step) (in_lengths whole tempo step (onset_weight g)) (range_with_len 0 4) o
    (from_filtered (is_offered whole) (flat_map f (range_with_len 0 4)) o c)))

-- ---- the tables of a round

module _ (next : NextBar) where
  abbrev voices : ℕ
  voices = length next.voices.now

  few_tried : (t : Course) (own : List Offer) → AreTriedOffers next t own → length own ≤ most_lengths next.number
  few_tried t own (offers, are, is) =
      let few = few_offers next.grammar.now next.performance.now next.number (last_length t.barring.ticks) offers are in
      let short = filter_few (can_be next (barring_end t.barring)) offers in
      omega (arith, few, short, ap length is)

  pub own_cells : (start : ℕ) (own : List Offer) → length (flat_map (cells next start) own) ≡ length own * voices
  own_cells start [] = omega arith
  own_cells start (o ∷ own) =
      let rest = own_cells start own in
      let one : length (cells next start o) ≡ voices = length-map next.voices.now (cell next.grammar.now next.like start (start + o.ticks)) in
      let more : suc (length own) * voices ≡ voices + length own * voices = grind arith in
      length-append (cells next start o) (flat_map (cells next start) own) ∙ (λ i. one i + rest i) ∙ sym more

  -- the cells of these lists, where each is lengthened by no more than m bars
  few_cells : (m : ℕ) (front : List Course) (tried : List (List Offer)) → Each (λ t own. length own ≤ m) front tried
      → length (all_cells next front tried) ≤ length front * (m * voices)
  few_cells m [] tried h = omega arith
  few_cells m (t ∷ front) [] h = absurd h
  few_cells m (t ∷ front) (own ∷ tried) h =
      let rest = few_cells m front tried h.1 in
      let both = length-append (flat_map (cells next (barring_end t.barring)) own) (all_cells next front tried) in
      let first : length (flat_map (cells next (barring_end t.barring)) own) ≤ m * voices =
      let most : length own * voices ≤ m * voices = mul-le-mul_right voices h.0 in omega (arith, own_cells (barring_end t.barring) own, most) in
      let more : suc (length front) * (m * voices) ≡ m * voices + length front * (m * voices) = grind arith in
      omega (arith, rest, both, first, more)

  each_few : (front : List Course) (tried : List (List Offer)) → Each (AreTriedOffers next) front tried → Each (λ t own. length own ≤ most_lengths next.number) front tried
  each_few [] tried h = h
  each_few (t ∷ front) [] h = absurd h
  each_few (t ∷ front) (own ∷ tried) h = (few_tried t own h.0, each_few front tried h.1)

  at_most : (i lists : ℕ) → lists ≤ most_lists i → lists * (most_lengths i * voices) ≤ 24 * 14 * voices
  at_most zero lists few = let most : lists * (25 * voices) ≤ 1 * (25 * voices) = mul-le-mul_right (25 * voices) few in omega (arith, most)
  at_most (suc i) lists few = let most : lists * (14 * voices) ≤ 24 * (14 * voices) = mul-le-mul_right (14 * voices) few in omega (arith, most)

  pub few_tables : (front : List Course) (tried : List (List Offer)) → length front ≤ most_lists next.number → Each (AreTriedOffers next) front tried
      → length (all_cells next front tried) ≤ 24 * 14 * voices
  few_tables front tried few h =
      let cells_few = few_cells (most_lengths next.number) front tried (each_few front tried h) in
      let most = at_most next.number (length front) few in
      omega (arith, cells_few, most)
