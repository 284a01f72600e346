-- A list that is passed over comes to what changes nothing.
use Rattle.std.proofs.Common.{◌≡◌, ℕ, ◌+◌, ◌*◌, ◌^◌, ◌<◌, ◌≤◌, Bool, true, false, List, [], ◌∷◌, ◌++◌, drop, length, take, refl, sym, ◌∙◌, arith}
use Rattle.std.specs.Prelude.{All, Option, Some, None, nat_le}
use Rattle.std.proofs.Math.Nat.{mul-le-mul_right}
use Rattle.std.proofs.lemmas.List.{length-append, length-drop}
use Rattle.std.proofs.lemmas.List.Elements.{All-drop, All-nil}
use Rattle.bar_pool.specs.Costs.{AreAllCosts, AreCosts}
use Rattle.least_cost.specs.declared.costs.BarCosts.{BarCosts}
use Rattle.rhythm_base.specs.Grammar.{Grammar}
use Rattle.rhythm_base.specs.Performance.{Performance}
use Rattle.rhythm_base.specs.Voices.{AreChordsOf}
use Rattle.rhythm_base.proofs.OrderedLists.{all_cons}
use Rattle.edit_session.proofs.Channels.{few_channels}
use Rattle.barline_follow.specs.declared.heads.Heads.{Heads}
use Rattle.barline_follow.specs.declared.next_bar.NextBar.{NextBar}
use Rattle.barline_follow.specs.declared.offers.Offer.{Offer}
use Rattle.barline_follow.specs.Barring.{Course, barring_end, course_end}
use Rattle.barline_follow.specs.Costs.{AreLowHeads, total}
use Rattle.barline_follow.specs.Courses.{AreHeads}
use Rattle.barline_follow.specs.Gathered.{Round}
use Rattle.barline_follow.specs.Longer.{Longer, draft_of}
use Rattle.barline_follow.specs.NextBars.{IsCourseOf, IsNextBar, asked_cells}
use Rattle.barline_follow.specs.PassedOver.{IsLonger, IsPassedOver, RulesOut}
use Rattle.barline_follow.specs.Rounds.{at_cost, going, lost, whole}
use Rattle.barline_follow.proofs.Finding.{heads_low, is_course, is_going, is_lost, is_whole, longer_low}
use Rattle.barline_follow.proofs.Further.{last_pushed}
use Rattle.barline_follow.proofs.KnownCosts.{costs_go_on}
use Rattle.barline_follow.proofs.NextBarLemmas.{asked_long}
use Rattle.barline_follow.proofs.RisingTotals.{known_rise, longer_costs_are, longer_few, longer_front, longer_heads}
use Rattle.barline_follow.proofs.RuledOut.{going_changes_nothing, lost_changes_nothing, whole_changes_nothing}
use Rattle.barline_follow.proofs.Searching.{each_long}

module _ (next : NextBar) (n : IsNextBar next) (l : Longer) (is : IsLonger next l) (v : ℕ)
    (known : AreAllCosts next.grammar.now (take v (asked_cells next l.course l.offer)) l.costs) where
  abbrev g : Grammar
  g = next.grammar.now

  abbrev p : Performance
  p = next.performance.now

  abbrev t : Course
  t = l.course

  abbrev o : Offer
  o = l.offer

  abbrev x : ℕ
  x = barring_end t.barring + o.ticks

  abbrev others : List BarCosts
  others = (costs_go_on next n t o is.tried v l.costs known).0

  abbrev bars : List BarCosts
  bars = l.costs ++ others

  are_costs : AreAllCosts g (asked_cells next t o) bars
  are_costs = (costs_go_on next n t o is.tried v l.costs known).1

  abbrev heads : List Heads
  heads = longer_heads t.heads bars

  -- ---- sizes

  voices_long : length next.voices.now ≡ length t.heads
  voices_long = each_long (AreHeads g p t.barring.ticks) next.voices.now t.heads is.course.heads

  few_heads : length t.heads ≤ 16
  few_heads =
      let first : length p.channels ≡ length next.voices.now = each_long (AreChordsOf g p) p.channels next.voices.now n.chords in
      let most : length p.channels ≤ 16 = few_channels p n.formed in
      omega (arith, first, voices_long, most)

  bars_long : length t.heads ≤ length l.costs + length others
  bars_long =
      let cells = asked_long next next.number t is.course o in
      let same : length (asked_cells next t o) ≡ length bars = each_long (AreCosts g) (asked_cells next t o) bars are_costs in
      let both : length bars ≡ length l.costs + length others = length-append l.costs others in
      omega (arith, cells, same, both, voices_long)

  pub within : length l.costs ≤ length t.heads
  within =
      let cells = asked_long next next.number t is.course o in
      let same : length (asked_cells next t o) ≡ length bars = each_long (AreCosts g) (asked_cells next t o) bars are_costs in
      let both : length bars ≡ length l.costs + length others = length-append l.costs others in
      omega (arith, cells, same, both, voices_long)

  pub first_few : length (longer_heads t.heads l.costs) ≤ 16
  first_few = let short = longer_few t.heads l.costs in omega (arith, short, few_heads)

  pub first_low : All AreLowHeads (longer_heads t.heads l.costs)
  first_low =
      longer_front AreLowHeads t.heads l.costs others
      (longer_low next n t is.course o is.tried bars heads are_costs (longer_costs_are t.heads bars))

  pub others_few : length (drop (length l.costs) t.heads) ≤ 16
  others_few = omega (arith, length-drop (length l.costs) t.heads, few_heads)

  pub others_low : All AreLowHeads (drop (length l.costs) t.heads)
  others_low = All-drop AreLowHeads (length l.costs) t.heads (heads_low next n t is.course o is.tried)

  pub fits_on : (a b : ℕ) → a ≤ 2 ^ 56 → b ≤ 2 ^ 56 → a + b + (t.barring.prices + o.price) < 2 ^ 62
  fits_on a b low low_too =
      let prices : t.barring.prices ≤ next.number * 864000 = is.course.prices in
      let few : next.number < 8192 = n.few in
      let own : o.price ≤ 864000 = is.tried.price in
      let below : next.number ≤ 8192 = omega (arith, few) in
      let most : next.number * 864000 ≤ 8192 * 864000 = mul-le-mul_right 864000 below in
      omega (arith, low, low_too, prices, most, own)

  -- ---- what it comes to

  abbrev is_closed : Bool
  is_closed = nat_le next.closing x

  module _ (r : Round) where
    -- it is lost, or comes to no less than a value that is ruled out
    comes : ((c : ℕ) → total is_closed heads ≡ Some c
        → (low : ℕ) × RulesOut is_closed x low r × (low ≤ c + (t.barring.prices + o.price))) → IsPassedOver next r l
    comes out = by (total is_closed heads) refl
      where
        last : (c : ℕ) → course_end (record { barring = at_cost (draft_of l) c; heads = heads }) ≡ x
        last c = last_pushed 0 x t.barring.ticks

        at : (c : ℕ) (b : Bool) → is_closed ≡ b → total b heads ≡ Some c → (low : ℕ) → RulesOut b x low r → low ≤ c + (t.barring.prices + o.price)
            → IsPassedOver next r l
        at c true closed cost low rules le = (
          whole (at_cost (draft_of l) c),
          [],
          is_whole next n t is.course o is.tried bars heads are_costs (longer_costs_are t.heads bars) c closed cost,
          All-nil (IsCourseOf next (next.number + 1)),
          whole_changes_nothing x low r rules (at_cost (draft_of l) c) le,
        )
        at c false closed cost low rules le = (
          going (at_cost (draft_of l) c),
          record { barring = at_cost (draft_of l) c; heads = heads } ∷ [],
          is_going next n t is.course o is.tried bars heads are_costs (longer_costs_are t.heads bars) c closed cost,
          all_cons (IsCourseOf next (next.number + 1)) (record { barring = at_cost (draft_of l) c; heads = heads }) []
              (is_course next n t is.course o is.tried bars heads are_costs (longer_costs_are t.heads bars) c)
              (All-nil (IsCourseOf next (next.number + 1))),
          going_changes_nothing x low r rules (record { barring = at_cost (draft_of l) c; heads = heads }) (last c) le,
        )

        by : (cost : Option ℕ) → total is_closed heads ≡ cost → IsPassedOver next r l
        by None none = (
          lost,
          [],
          is_lost next n t is.course o is.tried bars heads are_costs (longer_costs_are t.heads bars) none,
          All-nil (IsCourseOf next (next.number + 1)),
          lost_changes_nothing r,
        )
        by (Some c) some = let ruled = out c some in at c is_closed refl some ruled.0 ruled.1 ruled.2

    abbrev Rules : ℕ → Type 0
    Rules c = (low : ℕ) × RulesOut is_closed x low r × (low ≤ c + (t.barring.prices + o.price))

    -- where a voice has no trees
    pub none_own : total is_closed (longer_heads t.heads l.costs) ≡ None → IsPassedOver next r l
    none_own none = comes by
      where
        by : (c : ℕ) → total is_closed heads ≡ Some c → Rules c
        by c some =
            let rise = known_rise is_closed t.heads l.costs others c bars_long some in
            let wrong : Some rise.0 ≡ None = sym rise.2 ∙ none in
            absurd (cc)

    pub none_other : total false (drop (length l.costs) t.heads) ≡ None → IsPassedOver next r l
    none_other none = comes by
      where
        by : (c : ℕ) → total is_closed heads ≡ Some c → Rules c
        by c some =
            let rise = known_rise is_closed t.heads l.costs others c bars_long some in
            let wrong : Some rise.1 ≡ None = sym rise.3 ∙ none in
            absurd (cc)

    -- where what it costs at least is ruled out
    pub ruled : (a b : ℕ) → total is_closed (longer_heads t.heads l.costs) ≡ Some a → total false (drop (length l.costs) t.heads) ≡ Some b
        → RulesOut is_closed x (a + b + (t.barring.prices + o.price)) r → IsPassedOver next r l
    ruled a b own other rules = comes by
      where
        by : (c : ℕ) → total is_closed heads ≡ Some c → Rules c
        by c some =
            let rise = known_rise is_closed t.heads l.costs others c bars_long some in
            let first : Some rise.0 ≡ Some a = sym rise.2 ∙ own in
            let second : Some rise.1 ≡ Some b = sym rise.3 ∙ other in
            let same : rise.0 ≡ a = cc in
            let same_too : rise.1 ≡ b = cc in
            (a + b + (t.barring.prices + o.price), rules, omega (arith, rise.4, same, same_too))
