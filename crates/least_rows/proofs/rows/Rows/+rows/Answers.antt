use Rattle.std.proofs.Common.{rules, inl, inr, ◌≡◌, ◌<◌, ◌≤◌, ◌+◌, ◌-◌, ◌==◌, ◌∙◌, ℕ, Bool, true, false, zero, suc, List, [], ◌∷◌, length, refl, sym, ap, subst, arith}
use Rattle.std.specs.Prelude.{Option, Some, None, if◌then◌else◌, slice_get, slice_index_or}
use Rattle.std.proofs.lemmas.Bool.Decides.{nat_tests}
use Rattle.std.proofs.lemmas.Option.{get_or_from_slice_get, slice_get_read, slice_get_within}
use Rattle.row_laws.specs.QuietTrees.{IsQuiet}
use Rattle.row_laws.specs.LeafRules.{EndsInterval}
use Rattle.grammar_plan.specs.Plans.{IsSeat, pair_of}
use Rattle.grammar_plan.specs.declared.seat.Seat.{Seat}
use Rattle.least_rows.specs.Searches.{ground_in}
use Rattle.least_rows.specs.Choices.{AreBestChoices, RulesBefore, choice_in, limit_below, nearer_choice, topped_choice}
use Rattle.least_rows.specs.Ways.{AreShort, AreWays, AreWaysBelow, IsSmallWay, IsRankedRow, IsShort, nearer_way, one_way, quiet_rank, rank_in, way_in, way_on}
use Rattle.least_rows.specs.States.{IsRowAt}
use Rattle.least_rows.specs.Steps.{AreLeafChoices, AreWaysOver, CarriesAtMost, IsLeafAt, LeadsOver, way_to_none}
use Rattle.least_rows.specs.Tops.{AreChoicesWithTop, AreWaysTo, IsOffered, IsRowOfPart, IsTop, part_at, parts_below}
use Rattle.least_rows.specs.declared.choice.Choice.{Choice}
use Rattle.least_rows.specs.declared.way.Way.{Way}
use Rattle.least_rows.proofs.Asked.{next-one, quiet-row, seat-of}
use Rattle.least_rows.proofs.NextCut.{choices-offered, choices-passed, most-so, one-offered}
use Rattle.least_rows.proofs.Limits.{IsOver, over-limit}
use Rattle.least_rows.proofs.FirstWays.{ways-same}
use Rattle.least_rows.proofs.PlanSeats.{on_ok}
use Rattle.least_rows.proofs.Choices.{all-rules, choices-rules, no_cut-yet}
use Rattle.least_rows.proofs.Known.{grows-none, grows-then, keep-grows, keep-known, keep-row, leaf-of, row-of, seat-same, span-entries, span-ranked}
use Rattle.least_rows.proofs.Steps.{below-all, below-more, below-none, below-skip, lead-over, one-on}
use Rattle.least_rows.proofs.ToppedWays.{nearer-topped}
use Rattle.least_rows.proofs.Tops.{cut-most, few-parts, part-less, part-of, part-place, to-first, to-last, to-low, to-next, to-nowhere, to-short, to-whole}
use Rattle.least_rows.proofs.rows.Rows.+rows.Goals as goal
use Rattle.rhythm_base.proofs.Conjunctions.{and_then}

nones : (b : ℕ) → b < 5 → way_in (None ∷ None ∷ None ∷ None ∷ None ∷ []) b ≡ None
nones zero h = refl
nones (suc zero) h = refl
nones (suc (suc zero)) h = refl
nones (suc (suc (suc zero))) h = refl
nones (suc (suc (suc (suc zero)))) h = refl
nones (suc (suc (suc (suc (suc b))))) h = absurd (omega arith)

one-short : (w : Way) (m : ℕ) → m < 5 → AreShort (one_way w m) → IsShort w
one-short w m low h = h m w low (own (m == m) (grind (arith, nat_tests)))
  where
    own : (t : Bool) → t ≡ true → (if t then Some w else None) ≡ Some w
    own true e = refl
    own false e = absurd (cc)

-- the first of two where the other is not there
first-way : (o : Option Way) → nearer_way None o ≡ o
first-way None = refl
first-way (Some w) = refl

no-way : (o : Option Way) → ((w : Way) → o ≡ Some w → ⊥) → o ≡ None
no-way None h = refl
no-way (Some w) h = absurd (h w refl)

no-limit : (o : Option ℕ) → ((n : ℕ) → o ≡ Some n → ⊥) → o ≡ None
no-limit None h = refl
no-limit (Some n) h = absurd (h n refl)

one-low : (w : Way) (m : ℕ) → m < 5 → ((n : ℕ) (v : Way) → n < 5 → one_way w m n ≡ Some v → IsSmallWay v) → IsSmallWay w
one-low w m low h = h m w low (own (m == m) (grind (arith, nat_tests)))
  where
    own : (t : Bool) → t ≡ true → (if t then Some w else None) ≡ Some w
    own true e = refl
    own false e = absurd (cc)

-- ---- a row

pub row-returns-clause-grows : goal.row-returns-clause-grows
row-returns-clause-grows t c = on_ok c.row_of.result (λ more. grows-then c.args.self.now c.state.new.self c.row_of.new.self c.in_ok-number.ensures.grows more) c.row_of.ensures.grows

pub row_of-returns-in-Some-clause-row : goal.row_of-returns-in-Some-clause-row
row_of-returns-in-Some-clause-row t c =
    let rows = c.args.self.now in
    let h = c.requires.state in
    let low = slice_get_within rows.states.items c.args.number h.0 h.1 in
    let at : slice_get rows.states.items c.args.number ≡ Some c.index.result.now = slice_get_read rows.states.items (length rows.states.items) c.args.number c.index.result.now refl low c.index.ensures in
    row-of c.args.search.now rows c.args.number c.args.seat c.args.place c.args.from c.in-Some.span c.requires.known h (omega (arith, c.count.ensures.is, c.count.ensures.within)) (c.index.result.now, at, subst (λ a. slice_index_or c.index.result.now.rows a None ≡ Some c.in-Some.span) c.count.ensures.is c.in-Some.is)

-- ---- the row of a state

pub find_row-keep_row-requires : goal.find_row-keep_row-requires
find_row-keep_row-requires t c =
    let h = c.in_ok-offer_cuts.ensures.grows.states c.args.number c.args.seat c.args.place c.requires.state in
    record { number = slice_get_within c.offer_cuts.new.self.states.items c.args.number h.0 h.1 }

pub find_row-returns-clause-known : goal.find_row-returns-clause-known
find_row-returns-clause-known t c =
    let bar = c.args.search.now in
    let h = c.in_ok-offer_cuts.ensures.grows.states c.args.number c.args.seat c.args.place c.requires.state in
    keep-known bar c.offer_cuts.new.self c.keep_row.new.self c.args.number c.args.seat c.args.place c.args.from c.offer_cuts.new.best c.in_ok-span.span c.in_ok-offer_cuts.ensures.known h (omega (arith, c.count-few.ensures.is, c.count-few.ensures.within))
    (λ s. RulesBefore bar.grammar.now bar.plan.now s s.end) c.in_ok-offer_cuts.ensures.best (λ s at r on. all-rules bar.grammar.now bar.plan.now s (seat-of bar.grammar.now bar.plan.now c.requires.search.plan_of c.args.seat s at) r on) c.in_ok-span.ensures

pub find_row-returns-clause-grows : goal.find_row-returns-clause-grows
find_row-returns-clause-grows t c =
    let bar = c.args.search.now in
    let h = c.in_ok-offer_cuts.ensures.grows.states c.args.number c.args.seat c.args.place c.requires.state in
    grows-then c.args.self.now c.offer_cuts.new.self c.keep_row.new.self c.in_ok-offer_cuts.ensures.grows
    (keep-grows bar c.offer_cuts.new.self c.keep_row.new.self c.args.number c.args.seat c.args.place c.args.from c.offer_cuts.new.best c.in_ok-span.span c.in_ok-offer_cuts.ensures.known h (omega (arith, c.count-few.ensures.is, c.count-few.ensures.within))
    (λ s. RulesBefore bar.grammar.now bar.plan.now s s.end) c.in_ok-offer_cuts.ensures.best (λ s at r on. all-rules bar.grammar.now bar.plan.now s (seat-of bar.grammar.now bar.plan.now c.requires.search.plan_of c.args.seat s at) r on) c.in_ok-span.ensures)

pub find_row-returns-clause-row : goal.find_row-returns-clause-row
find_row-returns-clause-row t c =
    let bar = c.args.search.now in
    let h = c.in_ok-offer_cuts.ensures.grows.states c.args.number c.args.seat c.args.place c.requires.state in
    keep-row bar c.offer_cuts.new.self c.keep_row.new.self c.args.number c.args.seat c.args.place c.args.from c.offer_cuts.new.best c.in_ok-span.span c.in_ok-offer_cuts.ensures.known h (omega (arith, c.count-few.ensures.is, c.count-few.ensures.within))
    (λ s. RulesBefore bar.grammar.now bar.plan.now s s.end) c.in_ok-offer_cuts.ensures.best (λ s at r on. all-rules bar.grammar.now bar.plan.now s (seat-of bar.grammar.now bar.plan.now c.requires.search.plan_of c.args.seat s at) r on) c.in_ok-span.ensures

-- ---- several ways

pub over_rows-entries_of-requires : goal.over_rows-entries_of-requires
over_rows-entries_of-requires t c = record { within = (c.in_ok-span.ensures.row c.requires.place.0 c.requires.place.1).within }

pub over_rows-join-requires-clause-entries : goal.over_rows-join-requires-clause-entries
over_rows-join-requires-clause-entries t c =
    let s = c.requires.place.0 in
    let at = c.requires.place.1 in
    span-entries c.args.search.now c.requires.search c.args.seat s at c.row_of.new.self.entries.items c.args.place c.of-from.result c.in_ok-span.span
    (c.in_ok-span.ensures.row s at) c.entries_of.result.now c.entries_of.ensures

pub over_rows-counts-preserved-in_default : goal.over_rows-counts-preserved-in_default
over_rows-counts-preserved-in_default t c = record {
  known = c.counts.invariant.known;
  grows = c.counts.invariant.grows;
  state = c.counts.invariant.state;
  below = λ s at.
      let d = ground_in c.args.search.now in
      next-one (λ n. AreWaysBelow d c.args.place (pair_of s) (way_in c.args.ways.now) n (way_in c.counts.next)) c.counts.count
      (below-skip d c.args.place (pair_of s) (way_in c.args.ways.now) c.counts.count (way_in c.counts.next) (way_in c.counts.next) (c.counts.invariant.below s at) (no-way _ c.in_default.not-Some) (λ b lb. refl));
}

pub over_rows-counts-preserved : goal.over_rows-counts-preserved
over_rows-counts-preserved t c = record {
  known = c.in_ok-span.ensures.known;
  grows = grows-then c.state.new.self c.counts.self c.row_of.new.self c.counts.invariant.grows c.in_ok-span.ensures.grows;
  state = c.in_ok-span.ensures.grows.states _ _ _ c.counts.invariant.state;
  below = λ s at.
      let bar = c.args.search.now in
      let d = ground_in bar in
      let n = c.counts.count in
      let ranks = rank_in c.entries_of.result.now 0 in
      next-one (λ n. AreWaysBelow d c.args.place (pair_of s) (way_in c.args.ways.now) n (way_in c.join.new.next)) n
      (below-more d c.args.place (pair_of s) (way_in c.args.ways.now) n (way_in c.counts.next) (way_in c.join.new.next) (c.counts.invariant.below s at) ranks
      (subst (λ m. IsRankedRow d c.args.place (pair_of s) m ranks) c.of-from.ensures (span-ranked bar c.requires.search c.args.seat s at c.row_of.new.self.entries.items c.args.place c.of-from.result c.in_ok-span.span
      (c.in_ok-span.ensures.row s at) c.entries_of.result.now c.entries_of.ensures))
      (λ b lb. c.join.ensures b lb ∙ ap (λ m. nearer_way (way_in c.counts.next b) (way_on (Some c.in-Some.way) m (ranks b))) c.of-from.ensures ∙ ap (λ o. nearer_way (way_in c.counts.next b) (way_on o n (ranks b))) (sym c.in-Some.is)));
}

pub over_rows-counts-init : goal.over_rows-counts-init
over_rows-counts-init t c = record {
  known = c.in_ok-number.ensures.known;
  grows = grows-none c.state.new.self;
  state = c.in_ok-number.ensures.state;
  below = λ s at. below-none (ground_in c.args.search.now) c.args.place (pair_of s) (way_in c.args.ways.now) (way_in c.args.next.now) c.requires.none;
}

pub over_rows-returns-clause-grows : goal.over_rows-returns-clause-grows
over_rows-returns-clause-grows t c = grows-then c.args.self.now c.state.new.self c.counts.self c.in_ok-number.ensures.grows c.counts.invariant.grows

pub over_rows-returns-clause-ways : goal.over_rows-returns-clause-ways
over_rows-returns-clause-ways t c = λ s at.
    let d = ground_in c.args.search.now in
    let five : c.counts.count ≡ 5 = omega arith in
    below-all d c.args.place (pair_of s) (way_in c.args.ways.now) _ (subst (λ n. AreWaysBelow d c.args.place (pair_of s) (way_in c.args.ways.now) n (way_in c.counts.next)) five (c.counts.invariant.below s at))

-- ---- where one way leads

pub lead-entries_of-requires : goal.lead-entries_of-requires
lead-entries_of-requires t c = record { within = (c.in_ok-span-in-None.ensures.row c.requires.place.0 c.requires.place.1).within }

pub lead-lead_by_row-requires-clause-entries : goal.lead-lead_by_row-requires-clause-entries
lead-lead_by_row-requires-clause-entries t c =
    let s = c.requires.place.0 in
    let at = c.requires.place.1 in
    span-entries c.args.search.now c.requires.search c.args.seat s at c.row.new.self.entries.items c.args.place c.args.count c.in_ok-span-in-None.span
    (c.in_ok-span-in-None.ensures.row s at) c.entries_of.result.now c.entries_of.ensures

pub lead-returns-in-Some-clause-lead : goal.lead-returns-in-Some-clause-lead
lead-returns-in-Some-clause-lead t c =
    let bar = c.args.search.now in
    let d = ground_in bar in
    lead-over bar c.args.seat c.args.place c.args.way c.args.count (omega (arith, c.count-few.ensures.is, c.count-few.ensures.within)) (quiet_rank c.least_quiet-tree.result) (λ s at.
    let one : c.index.result.now ≡ s = c.index.ensures ∙ get_or_from_slice_get bar.plan.now.seats.items c.args.seat s c.index.result.now at in
    let calm = subst (λ (s : Seat). IsQuiet c.in-Some.quiet d c.args.place s.width) one (c.in-Some.ensures bar.grammar.now c.requires.search.ready.units) in
    quiet-row bar.grammar.now bar.input.now bar.plan.now c.requires.search.ready c.requires.search.plan_of c.args.seat c.in-Some.quiet c.args.count c.least_quiet-tree.result c.least_quiet-tree.ensures c.args.place s at calm)
    c.lead_by_quiet.result c.lead_by_quiet.ensures.lead

pub lead-returns-in-Some-clause-row : goal.lead-returns-in-Some-clause-row
lead-returns-in-Some-clause-row t c = λ several. absurd (c.lead_by_quiet.ensures.one several)

pub lead-returns-in_ok-span-in-None-clause-row : goal.lead-returns-in_ok-span-in-None-clause-row
lead-returns-in_ok-span-in-None-clause-row t c = λ several. c.in_ok-span-in-None.ensures.row

pub lead-returns-in_ok-span-in-None-clause-lead : goal.lead-returns-in_ok-span-in-None-clause-lead
lead-returns-in_ok-span-in-None-clause-lead t c =
    let bar = c.args.search.now in
    lead-over bar c.args.seat c.args.place c.args.way c.args.count (omega (arith, c.count-few.ensures.is, c.count-few.ensures.within)) (rank_in c.entries_of.result.now 0) (λ s at.
    span-ranked bar c.requires.search c.args.seat s at c.row.new.self.entries.items c.args.place c.args.count c.in_ok-span-in-None.span
    (c.in_ok-span-in-None.ensures.row s at) c.entries_of.result.now c.entries_of.ensures)
    c.lead_by_row.result c.lead_by_row.ensures

-- ---- one cut

pub offer_cut-offer_along-requires : goal.offer_cut-offer_along-requires
offer_cut-offer_along-requires t c =
    let bar = c.args.search.now in
    let top = c.args.top in
    let cut = c.args.cut.now in
    let long = cut-most bar c.requires.search top cut c.requires.top in
    and_then (omega (arith, c.decreases, long)) (and_then c.requires.search (and_then c.requires.top (and_then (omega arith, c.requires.top.is.order)
    (and_then (λ t. to-first bar c.requires.search top cut t) c.requires.known))))

pub offer_cut-returns-in_default-clause-best : goal.offer_cut-returns-in_default-clause-best
offer_cut-returns-in_default-clause-best t c =
    let bar = c.args.search.now in
    let top = c.args.top in
    let cut = c.args.cut.now in
    let old = c.args.best.now in
    let none : None ≡ limit_below old c.args.most cut = sym (no-limit c.limit_below.result c.in_default.not-Some) ∙ c.limit_below.ensures in
    choices-passed bar c.requires.search top cut c.requires.top old c.requires.best c.args.most c.requires.most (cut.first - cut.first) (record { cost = 0; order = 0; way = 0 }) top.from
    (to-first bar c.requires.search top cut c.requires.top).1 (over-limit old c.args.most cut 0 (omega arith) (subst (λ o. IsOver o 0) none tt))

pub offer_cut-returns-clause-best : goal.offer_cut-returns-clause-best
offer_cut-returns-clause-best t c =
    let bar = c.args.search.now in
    let top = c.args.top in
    let cut = c.args.cut.now in
    let after : List (Option Choice) → Type 0 = AreChoicesWithTop bar top in
    let old = c.args.best.now in
    let new = c.offer_along.new.best in
    on_ok c.offer_along.result (λ h. elim h [
      | inl offered ↦ choices-offered bar c.requires.search top cut c.requires.top old c.requires.best new offered
      | inr passed ↦
          let dear = passed.1 c.requires.top in
          let over = over-limit old c.args.most cut dear.1.cost dear.5 (subst (λ o. IsOver o dear.1.cost) (sym c.in-Some.is ∙ c.limit_below.ensures) dear.4) in
          subst after (sym passed.0) (choices-passed bar c.requires.search top cut c.requires.top old c.requires.best c.args.most c.requires.most dear.0 dear.1 dear.2 dear.3 over)
    ]) c.offer_along.ensures.best

-- ---- one way up to a part

pub offer_along-parts-init : goal.offer_along-parts-init
offer_along-parts-init t c = record {
  known = c.requires.known;
  grows = grows-none c.args.self.now;
  same = refl;
  few = (omega (arith, c.count-few.ensures.is, c.count-few.ensures.within));
  ways = c.requires.ways;
}

pub offer_along-returns-then-limit-way-clause-best : goal.offer_along-returns-then-limit-way-clause-best
offer_along-returns-then-limit-way-clause-best t c =
    let bar = c.args.search.now in
    let top = c.args.top in
    let cut = c.args.cut.now in
    let ways = (c.parts.invariant.ways c.requires.top).1 in
    let end = c.parts-test.true in
    let short = one-short c.parts.way c.parts.count c.parts.invariant.few (to-short bar c.requires.search top cut c.requires.top (c.parts.part - cut.first) (few-parts bar c.requires.search top cut c.requires.top c.parts.part (omega (arith, end))) (one_way c.parts.way c.parts.count) ways) in
    let low = short.0 in
    inr (c.parts.invariant.same, λ t. (c.parts.part - cut.first, c.parts.way, c.parts.count, (c.parts.invariant.ways t).1, omega arith, omega (arith, low)))

pub offer_along-lead-requires : goal.offer_along-lead-requires
offer_along-lead-requires t c =
    let bar = c.args.search.now in
    let top = c.args.top in
    let cut = c.args.cut.now in
    let w = c.parts.invariant.ways c.requires.top in
    let x = part-of bar c.requires.search top cut c.requires.top c.parts.part c.index-seat.result.now c.parts.at (omega (arith, c.parts.auto.part, c.requires.part.0)) c.parts-test.true c.index-seat.ensures w.0 in
    let ways = (c.parts.invariant.ways c.requires.top).1 in
    let end = c.parts-test.true in
    let short = one-short c.parts.way c.parts.count c.parts.invariant.few (to-short bar c.requires.search top cut c.requires.top (c.parts.part - cut.first) (few-parts bar c.requires.search top cut c.requires.top c.parts.part (omega (arith, end))) (one_way c.parts.way c.parts.count) ways) in
    let less = part-less bar c.requires.search top cut c.requires.top c.parts.part c.index-seat.result.now c.parts.at x in
    and_then (omega (arith, c.decreases, less)) (and_then c.requires.search (and_then (part-place bar c.requires.search top cut c.requires.top c.parts.part c.index-seat.result.now c.parts.at x) (and_then short c.parts.invariant.known)))

pub offer_along-index-requires : goal.offer_along-index-requires
offer_along-index-requires t c =
    let bar = c.args.search.now in
    let top = c.args.top in
    let cut = c.args.cut.now in
    let w = c.parts.invariant.ways c.requires.top in
    let x = part-of bar c.requires.search top cut c.requires.top c.parts.part c.index-seat.result.now c.parts.at (omega (arith, c.parts.auto.part, c.requires.part.0)) c.parts-test.true c.index-seat.ensures w.0 in
    let low = slice_get_within bar.plan.now.seats.items c.index-seat.result.now x.seat x.there in
    omega (arith, low)

pub offer_along-overflow_add-at : goal.offer_along-overflow_add-at
offer_along-overflow_add-at t c =
    let bar = c.args.search.now in
    let top = c.args.top in
    let cut = c.args.cut.now in
    let w = c.parts.invariant.ways c.requires.top in
    let x = part-of bar c.requires.search top cut c.requires.top c.parts.part c.index-seat.result.now c.parts.at (omega (arith, c.parts.auto.part, c.requires.part.0)) c.parts-test.true c.index-seat.ensures w.0 in
    let same : c.index.result.now ≡ x.seat = c.index.ensures ∙ get_or_from_slice_get bar.plan.now.seats.items c.index-seat.result.now x.seat c.index.result.now x.there in
    let width = ap (λ (s : Seat). s.width) same in
    let within = x.within in
    let most = c.requires.search.ready.readable.ranges.few_units in
    let units = c.requires.search.ready.units in
    omega (arith, width, within, most, units)

pub offer_along-returns-in-Nowhere-clause-grows : goal.offer_along-returns-in-Nowhere-clause-grows
offer_along-returns-in-Nowhere-clause-grows t c = grows-then c.args.self.now c.parts.self c.lead.new.self c.parts.invariant.grows c.in_ok-led.ensures.grows

pub offer_along-returns-in-Nowhere-clause-best : goal.offer_along-returns-in-Nowhere-clause-best
offer_along-returns-in-Nowhere-clause-best t c =
    let bar = c.args.search.now in
    let top = c.args.top in
    let cut = c.args.cut.now in
    let end = c.parts-test.true in
    inl (λ t.
    let w = c.parts.invariant.ways t in
    let x = part-of bar c.requires.search top cut t c.parts.part c.index-seat.result.now c.parts.at (omega (arith, c.parts.auto.part, c.requires.part.0)) c.parts-test.true c.index-seat.ensures w.0 in
    let next = to-next bar c.requires.search top cut t c.parts.part c.index-seat.result.now c.parts.at x.seat.width (omega (arith, c.parts.auto.part, c.requires.part.0)) x w.0 refl (one_way c.parts.way c.parts.count) (λ b. None) w.1 (subst (LeadsOver bar c.index-seat.result.now c.parts.at c.parts.way c.parts.count) c.in-Nowhere.is c.in_ok-led.ensures.lead) in
    ((λ b. None), to-nowhere bar c.requires.search top cut t (c.parts.part + 1) (omega (arith, end)) next.1, λ b lb. ap (λ l. choice_in l b) c.parts.invariant.same))

pub offer_along-offer_fork-requires : goal.offer_along-offer_fork-requires
offer_along-offer_fork-requires t c =
    let from = c.requires.part.0 in
    let first = c.parts.auto.part in
    let end = c.parts-test.true in
    let bar = c.args.search.now in
    let top = c.args.top in
    let cut = c.args.cut.now in
    let row : IsRowOfPart bar c.lead.new.self top cut (record { way = c.parts.way; count = c.parts.count; part = c.parts.part; at = c.parts.at }) c.in_ok-led.led.row = λ t.
    let x = part-of bar c.requires.search top cut t c.parts.part c.index-seat.result.now c.parts.at (omega (arith, first, from)) end c.index-seat.ensures (c.parts.invariant.ways t).0 in
    subst (λ q. IsRowAt bar c.lead.new.self.entries.items c.parts.at q c.parts.count c.in_ok-led.led.row) x.pair (c.in_ok-led.ensures.row c.in-Several.is x.seat x.there) in
    and_then (omega (arith, c.decreases, first, end)) (and_then c.requires.search (and_then c.requires.top (and_then (omega (arith, first, from), end, omega arith) (and_then c.parts.invariant.ways (and_then row c.in_ok-led.ensures.known)))))

pub offer_along-returns-in-Several-clause-grows : goal.offer_along-returns-in-Several-clause-grows
offer_along-returns-in-Several-clause-grows t c =
    on_ok c.offer_fork.result (λ more. grows-then c.args.self.now c.lead.new.self c.offer_fork.new.self (grows-then c.args.self.now c.parts.self c.lead.new.self c.parts.invariant.grows c.in_ok-led.ensures.grows) more) c.offer_fork.ensures.grows

pub offer_along-returns-in-Several-clause-best : goal.offer_along-returns-in-Several-clause-best
offer_along-returns-in-Several-clause-best t c =
    let bar = c.args.search.now in
    let top = c.args.top in
    let cut = c.args.cut.now in
    on_ok c.offer_fork.result (λ offered. inl (subst (λ l. IsOffered bar top cut l c.offer_fork.new.best) c.parts.invariant.same offered)) c.offer_fork.ensures.best

pub offer_along-of-count-requires : goal.offer_along-of-count-requires
offer_along-of-count-requires t c =
    let bar = c.args.search.now in
    (subst (LeadsOver bar c.index-seat.result.now c.parts.at c.parts.way c.parts.count) c.in-One.is c.in_ok-led.ensures.lead).0

pub offer_along-parts-preserved : goal.offer_along-parts-preserved
offer_along-parts-preserved t c =
    let bar = c.args.search.now in
    let top = c.args.top in
    let cut = c.args.cut.now in
    record {
      known = c.in_ok-led.ensures.known;
      grows = grows-then c.args.self.now c.parts.self c.lead.new.self c.parts.invariant.grows c.in_ok-led.ensures.grows;
      same = c.parts.invariant.same;
      few = subst (λ n. n < 5) (sym c.of-count.ensures) (subst (LeadsOver bar c.index-seat.result.now c.parts.at c.parts.way c.parts.count) c.in-One.is c.in_ok-led.ensures.lead).0;
      ways = λ t.
          let w = c.parts.invariant.ways t in
          let x = part-of bar c.requires.search top cut t c.parts.part c.index-seat.result.now c.parts.at (omega (arith, c.parts.auto.part, c.requires.part.0)) c.parts-test.true c.index-seat.ensures w.0 in
          let same : c.index.result.now ≡ x.seat = c.index.ensures ∙ get_or_from_slice_get bar.plan.now.seats.items c.index-seat.result.now x.seat c.index.result.now x.there in
          let next = to-next bar c.requires.search top cut t c.parts.part c.index-seat.result.now c.parts.at c.index.result.now.width (omega (arith, c.parts.auto.part, c.requires.part.0)) x w.0 (ap (λ (s : Seat). s.width) same) (one_way c.parts.way c.parts.count) (one_way c.in-One.next c.in-One.to) w.1 (subst (LeadsOver bar c.index-seat.result.now c.parts.at c.parts.way c.parts.count) c.in-One.is c.in_ok-led.ensures.lead).1 in
          (next.0, subst (λ n. AreWays (ground_in bar) top.place (parts_below bar top cut t) top.from (c.parts.part + 1 - cut.first) (one_way c.in-One.next n)) (sym c.of-count.ensures) next.1);
    }

pub offer_along-offer_way-requires : goal.offer_along-offer_way-requires
offer_along-offer_way-requires t c =
    let bar = c.args.search.now in
    let top = c.args.top in
    let cut = c.args.cut.now in
    let ways = (c.parts.invariant.ways c.requires.top).1 in
    let upto = c.parts.auto.part-end in
    let order = c.requires.part.1 in
    let end : c.parts.part ≤ cut.end = upto order in
    let short = one-short c.parts.way c.parts.count c.parts.invariant.few (to-short bar c.requires.search top cut c.requires.top (c.parts.part - cut.first) (few-parts bar c.requires.search top cut c.requires.top c.parts.part end) (one_way c.parts.way c.parts.count) ways) in
    record { fits = (omega (arith, short.0), short.1) }

pub offer_along-returns-clause-best : goal.offer_along-returns-clause-best
offer_along-returns-clause-best t c =
    let bar = c.args.search.now in
    let top = c.args.top in
    let cut = c.args.cut.now in
    let ways = (c.parts.invariant.ways c.requires.top).1 in
    let upto = c.parts.auto.part-end in
    let order = c.requires.part.1 in
    let end : c.parts.part ≤ cut.end = upto order in
    let past = c.parts-test.false in
    let last : c.parts.part ≡ cut.end = omega (arith, past, end) in
    let long : length c.parts.best ≡ 5 = search rules in
    let few = c.parts.invariant.few in
    inl (λ t. (
      one_way c.parts.way c.parts.count,
      to-whole bar c.requires.search top cut t c.parts.part last (one_way c.parts.way c.parts.count) (c.parts.invariant.ways t).1,
      λ b lb. one-offered c.parts.best c.count.result (omega (arith, few, long, c.count.ensures.is)) _ cut top.number c.parts.way c.offer_way.ensures b
          ∙ ap (λ n. nearer_choice (choice_in c.parts.best b) (topped_choice cut top.number (one_way c.parts.way n b))) c.count.ensures.is
          ∙ ap (λ l. nearer_choice (choice_in l b) (topped_choice cut top.number (one_way c.parts.way c.parts.count b))) c.parts.invariant.same,
    ))

-- ---- a fork

pub offer_fork-entries_of-entries-requires : goal.offer_fork-entries_of-entries-requires
offer_fork-entries_of-entries-requires t c =
    record { within = (c.requires.row c.requires.top).within }

pub offer_fork-index-requires : goal.offer_fork-index-requires
offer_fork-index-requires t c =
    let bar = c.args.search.now in
    let top = c.args.top in
    let cut = c.args.cut.now in
    let v = c.requires.ways c.requires.top in
    let y = part-of bar c.requires.search top cut c.requires.top c.args.fork.part c.index-own.result.now c.args.fork.at c.requires.part.0 c.requires.part.1 c.index-own.ensures v.0 in
    let low = slice_get_within bar.plan.now.seats.items c.index-own.result.now y.seat y.there in
    omega (arith, low)

pub offer_fork-overflow_add-at : goal.offer_fork-overflow_add-at
offer_fork-overflow_add-at t c =
    let bar = c.args.search.now in
    let top = c.args.top in
    let cut = c.args.cut.now in
    let v = c.requires.ways c.requires.top in
    let y = part-of bar c.requires.search top cut c.requires.top c.args.fork.part c.index-own.result.now c.args.fork.at c.requires.part.0 c.requires.part.1 c.index-own.ensures v.0 in
    let same : c.index.result.now ≡ y.seat = c.index.ensures ∙ get_or_from_slice_get bar.plan.now.seats.items c.index-own.result.now y.seat c.index.result.now y.there in
    let width = ap (λ (s : Seat). s.width) same in
    let within = y.within in
    let most = c.requires.search.ready.readable.ranges.few_units in
    let units = c.requires.search.ready.units in
    omega (arith, width, within, most, units)

pub offer_fork-overflow_add-part : goal.offer_fork-overflow_add-part
offer_fork-overflow_add-part t c =
    let high = c.requires.part.1 in
    let fits = c.requires.part.2 in
    omega (arith, high, fits)

pub offer_fork-join-requires-clause-short : goal.offer_fork-join-requires-clause-short
offer_fork-join-requires-clause-short t c =
    let bar = c.args.search.now in
    let top = c.args.top in
    let cut = c.args.cut.now in
    let v = c.requires.ways c.requires.top in
    let y = part-of bar c.requires.search top cut c.requires.top c.args.fork.part c.index-own.result.now c.args.fork.at c.requires.part.0 c.requires.part.1 c.index-own.ensures v.0 in
    one-short c.args.fork.way c.args.fork.count (omega (arith, c.count-few.ensures.is, c.count-few.ensures.within)) (to-short bar c.requires.search top cut c.requires.top (c.args.fork.part - cut.first) y.few (one_way c.args.fork.way c.args.fork.count) v.1)

pub offer_fork-join-requires-clause-entries : goal.offer_fork-join-requires-clause-entries
offer_fork-join-requires-clause-entries t c =
    let bar = c.args.search.now in
    let v = c.requires.ways c.requires.top in
    let y = part-of bar c.requires.search c.args.top c.args.cut.now c.requires.top c.args.fork.part c.index-own.result.now c.args.fork.at c.requires.part.0 c.requires.part.1 c.index-own.ensures v.0 in
    span-entries bar c.requires.search c.index-own.result.now y.seat y.there c.args.self.now.entries.items c.args.fork.at c.args.fork.count c.args.row (subst (λ q. IsRowAt bar c.args.self.now.entries.items c.args.fork.at q c.args.fork.count c.args.row) (sym y.pair) (c.requires.row c.requires.top)) c.entries_of-entries.result.now c.entries_of-entries.ensures

pub offer_fork-offer_entries-requires : goal.offer_fork-offer_entries-requires
offer_fork-offer_entries-requires t c =
    let bar = c.args.search.now in
    let top = c.args.top in
    let cut = c.args.cut.now in
    let v = c.requires.ways c.requires.top in
    let y = part-of bar c.requires.search top cut c.requires.top c.args.fork.part c.index-own.result.now c.args.fork.at c.requires.part.0 c.requires.part.1 c.index-own.ensures v.0 in
    let low = to-low bar c.requires.search top cut c.requires.top c.args.fork.part c.requires.part.1 (one_way c.args.fork.way c.args.fork.count) v.1 in
    record {
      low = one-low c.args.fork.way c.args.fork.count (omega (arith, c.count-few.ensures.is, c.count-few.ensures.within)) low;
      entries = span-entries bar c.requires.search c.index-own.result.now y.seat y.there c.args.self.now.entries.items c.args.fork.at c.args.fork.count c.args.row (subst (λ q. IsRowAt bar c.args.self.now.entries.items c.args.fork.at q c.args.fork.count c.args.row) (sym y.pair) (c.requires.row c.requires.top)) c.entries_of-entries.result.now c.entries_of-entries.ensures;
    }

pub offer_fork-returns-then-part-cut-clause-best : goal.offer_fork-returns-then-part-cut-clause-best
offer_fork-returns-then-part-cut-clause-best t c = λ t.
    let bar = c.args.search.now in
    let top = c.args.top in
    let cut = c.args.cut.now in
    let v = c.requires.ways t in
    let y = part-of bar c.requires.search top cut t c.args.fork.part c.index-own.result.now c.args.fork.at c.requires.part.0 c.requires.part.1 c.index-own.ensures v.0 in
    let ranks = rank_in c.entries_of-entries.result.now 0 in
    let ranked = span-ranked bar c.requires.search c.index-own.result.now y.seat y.there c.args.self.now.entries.items c.args.fork.at c.args.fork.count c.args.row (subst (λ q. IsRowAt bar c.args.self.now.entries.items c.args.fork.at q c.args.fork.count c.args.row) (sym y.pair) (c.requires.row t)) c.entries_of-entries.result.now c.entries_of-entries.ensures in
    let q = part_at bar top cut t c.args.fork.part in
    let next : ℕ → Option Way = λ b. way_on (Some c.args.fork.way) c.args.fork.count (ranks b) in
    let on = one-on (ground_in bar) c.args.fork.at q c.args.fork.way c.args.fork.count (omega (arith, c.count-few.ensures.is, c.count-few.ensures.within)) ranks (subst (λ q. IsRankedRow (ground_in bar) c.args.fork.at q c.args.fork.count ranks) y.pair ranked) next (λ b lb. refl) in
    (next, to-last bar c.requires.search top cut t c.args.fork.part c.args.fork.at c.requires.part.0 (omega arith) v.0 (one_way c.args.fork.way c.args.fork.count) next v.1 on, c.offer_entries.ensures)

pub offer_fork-offer_rest-requires : goal.offer_fork-offer_rest-requires
offer_fork-offer_rest-requires t c =
    let bar = c.args.search.now in
    let top = c.args.top in
    let cut = c.args.cut.now in
    let high = c.requires.part.1 in
    let first = c.requires.part.0 in
    let own = c.index-own.result.now in
    let v = c.requires.ways c.requires.top in
    let y = part-of bar c.requires.search top cut c.requires.top c.args.fork.part own c.args.fork.at c.requires.part.0 c.requires.part.1 c.index-own.ensures v.0 in
    let row : IsRowAt bar c.args.self.now.entries.items c.args.fork.at (pair_of y.seat) c.args.fork.count c.args.row = subst (λ q. IsRowAt bar c.args.self.now.entries.items c.args.fork.at q c.args.fork.count c.args.row) (sym y.pair) (c.requires.row c.requires.top) in
    let ranks = rank_in c.entries_of-entries.result.now 0 in
    let over : AreWaysOver bar own c.args.fork.at (one_way c.args.fork.way c.args.fork.count) (way_in c.join.new.next) = λ s at.
    one-on (ground_in bar) c.args.fork.at (pair_of s) c.args.fork.way c.args.fork.count (omega (arith, c.count-few.ensures.is, c.count-few.ensures.within)) ranks
    (span-ranked bar c.requires.search own s at c.args.self.now.entries.items c.args.fork.at c.args.fork.count c.args.row (subst (λ (s : Seat). IsRowAt bar c.args.self.now.entries.items c.args.fork.at (pair_of s) c.args.fork.count c.args.row) (seat-same bar.plan.now own own y.seat s refl y.there at) row) c.entries_of-entries.result.now c.entries_of-entries.ensures)
    (way_in c.join.new.next)
    (λ b lb. c.join.ensures b lb ∙ ap (λ o. nearer_way o (way_on (Some c.args.fork.way) c.args.fork.count (ranks b))) (nones b lb) ∙ first-way (way_on (Some c.args.fork.way) c.args.fork.count (ranks b))) in
    let ways : AreWaysTo bar top cut (c.args.fork.part + 1) (c.args.fork.at + c.index.result.now.width) (way_in c.join.new.next) = λ t.
    let v = c.requires.ways t in
    let y = part-of bar c.requires.search top cut t c.args.fork.part own c.args.fork.at c.requires.part.0 c.requires.part.1 c.index-own.ensures v.0 in
    let same : c.index.result.now ≡ y.seat = c.index.ensures ∙ get_or_from_slice_get bar.plan.now.seats.items own y.seat c.index.result.now y.there in
    to-next bar c.requires.search top cut t c.args.fork.part own c.args.fork.at c.index.result.now.width c.requires.part.0 y v.0 (ap (λ (s : Seat). s.width) same) (one_way c.args.fork.way c.args.fork.count) (way_in c.join.new.next) v.1 over in
    and_then (omega (arith, c.decreases, high)) (and_then c.requires.search (and_then c.requires.top (and_then (omega (arith, first), omega (arith, high), c.requires.part.2) (and_then ways c.requires.known))))

-- ---- several ways up to the last part

pub offer_several-counts-init : goal.offer_several-counts-init
offer_several-counts-init t c = record {
  known = c.in_ok-number.ensures.known;
  grows = grows-none c.state.new.self;
  state = c.in_ok-number.ensures.state;
  offered = λ t.
      let bar = c.args.search.now in
      ((λ b. None), below-none (ground_in bar) c.args.last.at (part_at bar c.args.top c.args.cut.now t c.args.last.part) (way_in c.args.ways.now) (λ b. None) (λ b lb. refl), λ b lb. refl);
}

pub offer_several-state-requires : goal.offer_several-state-requires
offer_several-state-requires t c =
    let bar = c.args.search.now in
    let top = c.args.top in
    let cut = c.args.cut.now in
    let last = c.requires.part.1 in
    let high : c.args.last.part < cut.end = omega (arith, last) in
    let own = c.index-own.result.now in
    let y = part-of bar c.requires.search top cut c.requires.top c.args.last.part own c.args.last.at c.requires.part.0 high c.index-own.ensures (c.requires.ways c.requires.top).0 in
    record { search = c.requires.search; place = part-place bar c.requires.search top cut c.requires.top c.args.last.part own c.args.last.at y; known = c.requires.known }

pub offer_several-row_of-requires : goal.offer_several-row_of-requires
offer_several-row_of-requires t c =
    let bar = c.args.search.now in
    let top = c.args.top in
    let cut = c.args.cut.now in
    let last = c.requires.part.1 in
    let high : c.args.last.part < cut.end = omega (arith, last) in
    let own = c.index-own.result.now in
    let y = part-of bar c.requires.search top cut c.requires.top c.args.last.part own c.args.last.at c.requires.part.0 high c.index-own.ensures (c.requires.ways c.requires.top).0 in
    let less = part-less bar c.requires.search top cut c.requires.top c.args.last.part own c.args.last.at y in
    and_then (omega (arith, c.decreases, less)) (and_then c.requires.search (and_then (part-place bar c.requires.search top cut c.requires.top c.args.last.part own c.args.last.at y)
    (and_then c.counts.invariant.known c.counts.invariant.state)))

pub offer_several-entries_of-requires : goal.offer_several-entries_of-requires
offer_several-entries_of-requires t c =
    let bar = c.args.search.now in
    let top = c.args.top in
    let cut = c.args.cut.now in
    let last = c.requires.part.1 in
    let high : c.args.last.part < cut.end = omega (arith, last) in
    let own = c.index-own.result.now in
    let y = part-of bar c.requires.search top cut c.requires.top c.args.last.part own c.args.last.at c.requires.part.0 high c.index-own.ensures (c.requires.ways c.requires.top).0 in
    record { within = (c.in_ok-span.ensures.row y.seat y.there).within }

pub offer_several-offer_entries-requires : goal.offer_several-offer_entries-requires
offer_several-offer_entries-requires t c =
    let bar = c.args.search.now in
    let top = c.args.top in
    let cut = c.args.cut.now in
    let last = c.requires.part.1 in
    let high : c.args.last.part < cut.end = omega (arith, last) in
    let own = c.index-own.result.now in
    let y = part-of bar c.requires.search top cut c.requires.top c.args.last.part own c.args.last.at c.requires.part.0 high c.index-own.ensures (c.requires.ways c.requires.top).0 in
    let count = c.counts-test.true in
    record {
      low = to-low bar c.requires.search top cut c.requires.top c.args.last.part high (way_in c.args.ways.now) (c.requires.ways c.requires.top).1 c.counts.count c.in-Some.way count c.in-Some.is;
      entries = span-entries bar c.requires.search own y.seat y.there c.row_of.new.self.entries.items c.args.last.at c.of-from.result c.in_ok-span.span (c.in_ok-span.ensures.row y.seat y.there) c.entries_of.result.now c.entries_of.ensures;
    }

pub offer_several-counts-preserved-in_default : goal.offer_several-counts-preserved-in_default
offer_several-counts-preserved-in_default t c = record {
  known = c.counts.invariant.known;
  grows = c.counts.invariant.grows;
  state = c.counts.invariant.state;
  offered = λ t.
      let bar = c.args.search.now in
      let d = ground_in bar in
      let q = part_at bar c.args.top c.args.cut.now t c.args.last.part in
      let m = c.counts.invariant.offered t in (
        m.0,
        next-one (λ n. AreWaysBelow d c.args.last.at q (way_in c.args.ways.now) n m.0) c.counts.count
            (below-skip d c.args.last.at q (way_in c.args.ways.now) c.counts.count m.0 m.0 m.1 (no-way _ c.in_default.not-Some) (λ b lb. refl)),
        m.2,
      );
}

pub offer_several-counts-preserved : goal.offer_several-counts-preserved
offer_several-counts-preserved t c = record {
  known = c.in_ok-span.ensures.known;
  grows = grows-then c.state.new.self c.counts.self c.row_of.new.self c.counts.invariant.grows c.in_ok-span.ensures.grows;
  state = c.in_ok-span.ensures.grows.states _ _ _ c.counts.invariant.state;
  offered = λ t.
      let bar = c.args.search.now in
      let cut = c.args.cut.now in
      let d = ground_in bar in
      let last = c.requires.part.1 in
      let own = c.index-own.result.now in
      let y = part-of bar c.requires.search c.args.top cut t c.args.last.part own c.args.last.at c.requires.part.0 (omega (arith, last)) c.index-own.ensures (c.requires.ways t).0 in
      let q = part_at bar c.args.top cut t c.args.last.part in
      let m = c.counts.invariant.offered t in
      let n = c.counts.count in
      let ranks = rank_in c.entries_of.result.now 0 in
      let ranked = subst (λ m. IsRankedRow d c.args.last.at (pair_of y.seat) m ranks) c.of-from.ensures
      (span-ranked bar c.requires.search own y.seat y.there c.row_of.new.self.entries.items c.args.last.at c.of-from.result c.in_ok-span.span (c.in_ok-span.ensures.row y.seat y.there) c.entries_of.result.now c.entries_of.ensures) in
      let ways = way_in c.args.ways.now in
      let next : ℕ → Option Way = λ b. nearer_way (m.0 b) (way_on (ways n) n (ranks b)) in (
        next,
        next-one (λ n. AreWaysBelow d c.args.last.at q ways n next) n (below-more d c.args.last.at q ways n m.0 next m.1 ranks (subst (λ q. IsRankedRow d c.args.last.at q n ranks) y.pair ranked) (λ b lb. refl)),
        λ b lb.
            c.offer_entries.ensures b lb ∙ ap (λ m. nearer_choice (choice_in c.counts.best b) (topped_choice cut c.args.top.number (way_on (Some c.in-Some.way) m (ranks b)))) c.of-from.ensures ∙ ap (λ o. nearer_choice o (topped_choice cut c.args.top.number (way_on (Some c.in-Some.way) n (ranks b)))) (m.2 b lb)
            ∙ nearer-topped cut c.args.top.number (choice_in c.args.best.now b) (m.0 b) (way_on (Some c.in-Some.way) n (ranks b))
            ∙ ap (λ o. nearer_choice (choice_in c.args.best.now b) (topped_choice cut c.args.top.number (nearer_way (m.0 b) (way_on o n (ranks b))))) (sym c.in-Some.is),
      );
}

pub offer_several-returns-clause-grows : goal.offer_several-returns-clause-grows
offer_several-returns-clause-grows t c = grows-then c.args.self.now c.state.new.self c.counts.self c.in_ok-number.ensures.grows c.counts.invariant.grows

pub offer_several-returns-clause-best : goal.offer_several-returns-clause-best
offer_several-returns-clause-best t c = λ t.
    let bar = c.args.search.now in
    let top = c.args.top in
    let cut = c.args.cut.now in
    let d = ground_in bar in
    let q = part_at bar top cut t c.args.last.part in
    let five : c.counts.count ≡ 5 = omega arith in
    let m = c.counts.invariant.offered t in
    let v = c.requires.ways t in
    let on = below-all d c.args.last.at q (way_in c.args.ways.now) m.0 (subst (λ n. AreWaysBelow d c.args.last.at q (way_in c.args.ways.now) n m.0) five m.1) in
    (m.0, to-last bar c.requires.search top cut t c.args.last.part c.args.last.at c.requires.part.0 c.requires.part.1 v.0 (way_in c.args.ways.now) m.0 v.1 on, m.2)

-- ---- several ways up to a part

pub offer_rest-index-requires : goal.offer_rest-index-requires
offer_rest-index-requires t c =
    let bar = c.args.search.now in
    let top = c.args.top in
    let cut = c.args.cut.now in
    let v = c.requires.ways c.requires.top in
    let own = c.index-seat.result.now in
    let y = part-of bar c.requires.search top cut c.requires.top c.args.next.part own c.args.next.at c.requires.part.0 c.requires.part.1 c.index-seat.ensures v.0 in
    let low = slice_get_within bar.plan.now.seats.items own y.seat y.there in
    omega (arith, low)

pub offer_rest-overflow_add-part : goal.offer_rest-overflow_add-part
offer_rest-overflow_add-part t c =
    let high = c.requires.part.1 in
    let fits = c.requires.part.2 in
    omega (arith, high, fits)

pub offer_rest-overflow_add-at : goal.offer_rest-overflow_add-at
offer_rest-overflow_add-at t c =
    let bar = c.args.search.now in
    let top = c.args.top in
    let cut = c.args.cut.now in
    let v = c.requires.ways c.requires.top in
    let own = c.index-seat.result.now in
    let y = part-of bar c.requires.search top cut c.requires.top c.args.next.part own c.args.next.at c.requires.part.0 c.requires.part.1 c.index-seat.ensures v.0 in
    let same : c.index.result.now ≡ y.seat = c.index.ensures ∙ get_or_from_slice_get bar.plan.now.seats.items own y.seat c.index.result.now y.there in
    let width = ap (λ (s : Seat). s.width) same in
    let within = y.within in
    let most = c.requires.search.ready.readable.ranges.few_units in
    let units = c.requires.search.ready.units in
    omega (arith, width, within, most, units)

pub offer_rest-quiet-requires-clause-within : goal.offer_rest-quiet-requires-clause-within
offer_rest-quiet-requires-clause-within t c =
    let bar = c.args.search.now in
    let own = c.index-seat.result.now in
    let v = c.requires.ways c.requires.top in
    let y = part-of bar c.requires.search c.args.top c.args.cut.now c.requires.top c.args.next.part own c.args.next.at c.requires.part.0 c.requires.part.1 c.index-seat.ensures v.0 in
    let same : c.index.result.now ≡ y.seat = c.index.ensures ∙ get_or_from_slice_get bar.plan.now.seats.items own y.seat c.index.result.now y.there in
    let width = ap (λ (s : Seat). s.width) same in
    let within = y.within in
    omega (arith, width, within)

pub offer_rest-rest_of_several-way-requires : goal.offer_rest-rest_of_several-way-requires
offer_rest-rest_of_several-way-requires t c =
    let bar = c.args.search.now in
    let top = c.args.top in
    let cut = c.args.cut.now in
    let v = c.requires.ways c.requires.top in
    let own = c.index-seat.result.now in
    let y = part-of bar c.requires.search top cut c.requires.top c.args.next.part own c.args.next.at c.requires.part.0 c.requires.part.1 c.index-seat.ensures v.0 in
    let short = to-short bar c.requires.search top cut c.requires.top (c.args.next.part - cut.first) y.few (way_in c.args.ways.now) v.1 in
    record { search = c.requires.search; seat = slice_get_within bar.plan.now.seats.items own y.seat y.there; short = short }

pub offer_rest-offer_alone-requires : goal.offer_rest-offer_alone-requires
offer_rest-offer_alone-requires t c =
    let bar = c.args.search.now in
    let top = c.args.top in
    let cut = c.args.cut.now in
    let own = c.index-seat.result.now in
    let high = c.requires.part.1 in
    let first = c.requires.part.0 in
    let next = way_to_none c.rest_of_several-way.result in
    let ways : AreWaysTo bar top cut (c.args.next.part + 1) (c.args.next.at + c.index.result.now.width) next = (λ t.
    let v = c.requires.ways t in
    let y = part-of bar c.requires.search top cut t c.args.next.part own c.args.next.at c.requires.part.0 c.requires.part.1 c.index-seat.ensures v.0 in
    let same : c.index.result.now ≡ y.seat = c.index.ensures ∙ get_or_from_slice_get bar.plan.now.seats.items own y.seat c.index.result.now y.there in
    to-next bar c.requires.search top cut t c.args.next.part own c.args.next.at c.index.result.now.width c.requires.part.0 y v.0 (ap (λ (s : Seat). s.width) same) (way_in c.args.ways.now) (next) v.1 (λ s at.
    let one : c.index.result.now ≡ s = c.index.ensures ∙ get_or_from_slice_get bar.plan.now.seats.items own s c.index.result.now at in
    let calm = subst (λ (s : Seat). IsQuiet c.in-Some.quiet (ground_in bar) c.args.next.at s.width) one (c.in-Some.ensures bar.grammar.now c.requires.search.ready.units) in
    c.rest_of_several-way.ensures c.args.next.at s at calm)) in
    and_then (omega (arith, c.decreases, high)) (and_then c.requires.search (and_then c.requires.top (and_then (omega (arith, first), omega (arith, high)) (and_then ways c.requires.known))))

pub offer_rest-offer_several-requires : goal.offer_rest-offer_several-requires
offer_rest-offer_several-requires t c =
    and_then (omega (arith, c.decreases)) (and_then c.requires.search (and_then c.requires.top (and_then (c.requires.part.0, omega arith) (and_then c.requires.ways c.requires.known))))

pub offer_rest-offer_over-requires : goal.offer_rest-offer_over-requires
offer_rest-offer_over-requires t c =
    let high = c.requires.part.1 in
    let other = c.if-part-cut.false in
    and_then (omega (arith, c.decreases)) (and_then c.requires.search (and_then c.requires.top (and_then (c.requires.part.0, omega (arith, high, other), c.requires.part.2) (and_then c.requires.ways c.requires.known))))

-- ---- several ways over a part that others come after

pub offer_over-index-requires : goal.offer_over-index-requires
offer_over-index-requires t c =
    let bar = c.args.search.now in
    let top = c.args.top in
    let cut = c.args.cut.now in
    let more = c.requires.part.1 in
    let high : c.args.next.part < cut.end = omega (arith, more) in
    let v = c.requires.ways c.requires.top in
    let own = c.index-seat.result.now in
    let y = part-of bar c.requires.search top cut c.requires.top c.args.next.part own c.args.next.at c.requires.part.0 high c.index-seat.ensures v.0 in
    let low = slice_get_within bar.plan.now.seats.items own y.seat y.there in
    omega (arith, low)

pub offer_over-overflow_add-at : goal.offer_over-overflow_add-at
offer_over-overflow_add-at t c =
    let bar = c.args.search.now in
    let top = c.args.top in
    let cut = c.args.cut.now in
    let more = c.requires.part.1 in
    let high : c.args.next.part < cut.end = omega (arith, more) in
    let v = c.requires.ways c.requires.top in
    let own = c.index-seat.result.now in
    let y = part-of bar c.requires.search top cut c.requires.top c.args.next.part own c.args.next.at c.requires.part.0 high c.index-seat.ensures v.0 in
    let same : c.index.result.now ≡ y.seat = c.index.ensures ∙ get_or_from_slice_get bar.plan.now.seats.items own y.seat c.index.result.now y.there in
    let width = ap (λ (s : Seat). s.width) same in
    let within = y.within in
    let most = c.requires.search.ready.readable.ranges.few_units in
    let units = c.requires.search.ready.units in
    omega (arith, width, within, most, units)

pub offer_over-over_rows-requires : goal.offer_over-over_rows-requires
offer_over-over_rows-requires t c =
    let bar = c.args.search.now in
    let top = c.args.top in
    let cut = c.args.cut.now in
    let more = c.requires.part.1 in
    let high : c.args.next.part < cut.end = omega (arith, more) in
    let v = c.requires.ways c.requires.top in
    let own = c.index-seat.result.now in
    let y = part-of bar c.requires.search top cut c.requires.top c.args.next.part own c.args.next.at c.requires.part.0 high c.index-seat.ensures v.0 in
    let short = to-short bar c.requires.search top cut c.requires.top (c.args.next.part - cut.first) y.few (way_in c.args.ways.now) v.1 in
    let less = part-less bar c.requires.search top cut c.requires.top c.args.next.part own c.args.next.at y in
    and_then (omega (arith, c.decreases, less)) (and_then c.requires.search (and_then (part-place bar c.requires.search top cut c.requires.top c.args.next.part own c.args.next.at y) (and_then nones (and_then short c.requires.known))))

pub offer_over-offer_rest-requires : goal.offer_over-offer_rest-requires
offer_over-offer_rest-requires t c =
    let bar = c.args.search.now in
    let top = c.args.top in
    let cut = c.args.cut.now in
    let more = c.requires.part.1 in
    let high : c.args.next.part < cut.end = omega (arith, more) in
    let own = c.index-seat.result.now in
    let first = c.requires.part.0 in
    let next = way_in c.over_rows.new.next in
    let ways : AreWaysTo bar top cut (c.args.next.part + 1) (c.args.next.at + c.index.result.now.width) next = (λ t.
    let v = c.requires.ways t in
    let y = part-of bar c.requires.search top cut t c.args.next.part own c.args.next.at c.requires.part.0 high c.index-seat.ensures v.0 in
    let same : c.index.result.now ≡ y.seat = c.index.ensures ∙ get_or_from_slice_get bar.plan.now.seats.items own y.seat c.index.result.now y.there in
    to-next bar c.requires.search top cut t c.args.next.part own c.args.next.at c.index.result.now.width c.requires.part.0 y v.0 (ap (λ (s : Seat). s.width) same) (way_in c.args.ways.now) (next) v.1 (c.in_ok-over_rows.ensures.ways)) in
    and_then (omega (arith, c.decreases, more)) (and_then c.requires.search (and_then c.requires.top (and_then (omega (arith, first), omega (arith, more), c.requires.part.2) (and_then ways c.in_ok-over_rows.ensures.known))))

pub offer_over-returns-clause-grows : goal.offer_over-returns-clause-grows
offer_over-returns-clause-grows t c = on_ok c.offer_rest.result (λ more. grows-then c.args.self.now c.over_rows.new.self c.offer_rest.new.self c.in_ok-over_rows.ensures.grows more) c.offer_rest.ensures.grows

-- ---- one way alone, where there is one

pub offer_alone-returns-in_default-clause-best : goal.offer_alone-returns-in_default-clause-best
offer_alone-returns-in_default-clause-best t c = λ t.
    let bar = c.args.search.now in
    let top = c.args.top in
    let cut = c.args.cut.now in
    let v = c.requires.ways t in
    let none = ways-same (ground_in bar) top.place (parts_below bar top cut t) top.from (c.args.next.part - cut.first) (way_to_none None) (λ b. None) (λ b lb. refl)
    (subst (λ o. AreWays (ground_in bar) top.place (parts_below bar top cut t) top.from (c.args.next.part - cut.first) (way_to_none o)) (no-way c.args.way c.in_default.not-Some) v.1) in
    ((λ b. None), to-nowhere bar c.requires.search top cut t c.args.next.part c.requires.part.1 none, λ b lb. refl)

pub offer_alone-offer_along-requires : goal.offer_alone-offer_along-requires
offer_alone-offer_along-requires t c =
    let bar = c.args.search.now in
    let top = c.args.top in
    let cut = c.args.cut.now in
    let ways : AreWaysTo bar top cut c.args.next.part c.args.next.at (one_way c.in-Some.way 0) = λ t. (
      (c.requires.ways t).0,
      ways-same (ground_in bar) top.place (parts_below bar top cut t) top.from (c.args.next.part - cut.first) (way_to_none (Some c.in-Some.way)) (one_way c.in-Some.way 0) (λ b lb. refl)
          (subst (λ o. AreWays (ground_in bar) top.place (parts_below bar top cut t) top.from (c.args.next.part - cut.first) (way_to_none o)) c.in-Some.is (c.requires.ways t).1),
    ) in
    let own = subst (λ n. AreWaysTo bar top cut c.args.next.part c.args.next.at (one_way c.in-Some.way n)) (sym c.none.ensures) ways in
    and_then (omega (arith, c.decreases)) (and_then c.requires.search (and_then c.requires.top (and_then c.requires.part (and_then own c.requires.known))))

pub offer_alone-returns-clause-best : goal.offer_alone-returns-clause-best
offer_alone-returns-clause-best t c = on_ok c.offer_along.result (λ h. elim h [
  | inl offered ↦ offered
  | inr passed ↦ λ t. let over = (passed.1 t).4 in let small = (passed.1 t).5 in absurd (omega (arith, over, small))
]) c.offer_along.ensures.best

-- ---- the cuts of a seat

pub find_row-offer_cuts-requires : goal.find_row-offer_cuts-requires
find_row-offer_cuts-requires t c =
    let bar = c.args.search.now in
    let seat : (s : Seat) → slice_get bar.plan.now.seats.items c.args.seat ≡ Some s → IsSeat bar.grammar.now bar.plan.now s = λ s at. seat-of bar.grammar.now bar.plan.now c.requires.search.plan_of c.args.seat s at in
    let leaf = leaf-of bar c.args.self.now c.args.number c.args.seat c.args.place c.index.result.now c.requires.known c.requires.state c.index.ensures in
    let best : AreLeafChoices bar c.args.seat c.args.place c.args.from c.offer_leaf.new.best = λ s at.
    let one : c.index-2.result.now ≡ s = c.index-2.ensures ∙ get_or_from_slice_get bar.plan.now.seats.items c.args.seat s c.index-2.result.now at in
    let own = seat-same bar.plan.now c.args.seat c.args.seat c.requires.place.0 s refl c.requires.place.1 at in
    let within : c.args.place + s.width ≤ bar.input.now.resolution = subst (λ (s : Seat). c.args.place + s.width ≤ bar.input.now.resolution) own c.requires.place.2 in
    let Q : Seat → Type 0 = λ s. 1 ≤ s.width → c.args.place + s.width ≤ bar.input.now.resolution → IsLeafAt bar.grammar.now bar.input.now c.args.place s.width c.index.result.now.leaf
    → AreBestChoices (ground_in bar) bar.plan.now c.args.place (pair_of s) c.args.from (EndsInterval bar.grammar.now) c.offer_leaf.new.best in
    subst Q one (c.offer_leaf.ensures c.args.place) (seat s at).wide within (leaf s at) in
    let most : CarriesAtMost bar c.args.seat c.args.place c.most_out-most.result = λ s a b key at f.
    subst (λ n. b ≤ n) (sym c.most_out-most.ensures) (most-so bar.grammar.now bar.input.now c.requires.search.ready c.args.place s.width s.symbol (seat s at).wide c.index.result.now.leaf (leaf s at) a b key f) in
    and_then (omega (arith, c.decreases)) (and_then c.requires.search (and_then c.requires.place (and_then most (and_then c.requires.known best))))

pub offer_cuts-offer_each-requires : goal.offer_cuts-offer_each-requires
offer_cuts-offer_each-requires t c =
    let bar = c.args.search.now in
    let is = c.if-most-eq0.true in
    let none : c.args.most ≡ 0 = omega (arith, is) in
    let most = subst (CarriesAtMost bar c.args.seat c.args.place) none c.requires.most in
    and_then (omega (arith, c.decreases)) (and_then c.requires.search (and_then c.requires.place (and_then most (and_then c.requires.known c.requires.best))))

pub offer_cuts-index-own-requires : goal.offer_cuts-index-own-requires
offer_cuts-index-own-requires t c =
    let low = slice_get_within c.args.search.now.plan.now.seats.items c.args.seat c.requires.place.0 c.requires.place.1 in
    omega (arith, low)

pub offer_cuts-overflow_sub-own : goal.offer_cuts-overflow_sub-own
offer_cuts-overflow_sub-own t c =
    let bar = c.args.search.now in
    let s = c.requires.place.0 in
    let one : c.index-own.result.now ≡ s = c.index-own.ensures ∙ get_or_from_slice_get bar.plan.now.seats.items c.args.seat s c.index-own.result.now c.requires.place.1 in
    let first = ap (λ (s : Seat). s.first) one in
    let end = ap (λ (s : Seat). s.end) one in
    let order = (seat-of c.args.search.now.grammar.now bar.plan.now c.requires.search.plan_of c.args.seat s c.requires.place.1).order in
    omega (arith, first, end, order)

pub offer_each-cuts-init : goal.offer_each-cuts-init
offer_each-cuts-init t c = record {
  known = c.requires.known;
  grows = grows-none c.args.self.now;
  best = λ s at.
      let bar = c.args.search.now in
      let one : c.index.result.now ≡ s = c.index.ensures ∙ get_or_from_slice_get bar.plan.now.seats.items c.args.seat s c.index.result.now at in
      subst (λ n. AreBestChoices (ground_in bar) bar.plan.now c.args.place (pair_of s) c.args.from (RulesBefore bar.grammar.now bar.plan.now s n) c.args.best.now) (ap (λ (s : Seat). s.first) (sym one))
      (choices-rules (ground_in bar) bar.plan.now c.args.place (pair_of s) c.args.from (EndsInterval bar.grammar.now) (RulesBefore bar.grammar.now bar.plan.now s s.first) c.args.best.now (λ n h. inl h) (λ n h. no_cut-yet bar.grammar.now bar.plan.now s n h) (c.requires.best s at));
}

pub offer_each-index-cut-requires : goal.offer_each-index-cut-requires
offer_each-index-cut-requires t c =
    let bar = c.args.search.now in
    let s = c.requires.place.0 in
    let seat = seat-of c.args.search.now.grammar.now bar.plan.now c.requires.search.plan_of c.args.seat s c.requires.place.1 in
    let one : c.index-2.result.now ≡ s = c.index-2.ensures ∙ get_or_from_slice_get bar.plan.now.seats.items c.args.seat s c.index-2.result.now c.requires.place.1 in
    let end = ap (λ (s : Seat). s.end) one in
    let inside = seat.inside in
    omega (arith, end, inside)

pub offer_each-offer_cut-requires : goal.offer_each-offer_cut-requires
offer_each-offer_cut-requires t c =
    let bar = c.args.search.now in
    let z = c.requires.place.0 in
    let firsts = ap (λ (s : Seat). s.first) (c.index.ensures ∙ get_or_from_slice_get bar.plan.now.seats.items c.args.seat z c.index.result.now c.requires.place.1) in
    let lasts = ap (λ (s : Seat). s.end) (c.index-2.ensures ∙ get_or_from_slice_get bar.plan.now.seats.items c.args.seat z c.index-2.result.now c.requires.place.1) in
    let zone = seat-of bar.grammar.now bar.plan.now c.requires.search.plan_of c.args.seat z c.requires.place.1 in
    let inside = zone.inside in
    let low : c.cuts.number < length bar.plan.now.cuts.items = omega (arith, lasts, inside) in
    let here : slice_get bar.plan.now.cuts.items c.cuts.number ≡ Some c.index-cut.result.now = slice_get_read bar.plan.now.cuts.items (length bar.plan.now.cuts.items) c.cuts.number c.index-cut.result.now refl low c.index-cut.ensures in
    let first : z.first ≤ c.cuts.number = omega (arith, firsts) in
    let end : c.cuts.number < z.end = omega (arith, lasts) in
    let top : IsTop bar (record { seat = c.args.seat; place = c.args.place; from = c.args.from; number = c.cuts.number }) c.index-cut.result.now
    = record {
      seat = z;
      at = c.requires.place.1;
      within = c.requires.place.2;
      few = (omega (arith, c.count-few.ensures.is, c.count-few.ensures.within));
      there = here;
      first = first;
      end = end;
      is = zone.cuts c.cuts.number c.index-cut.result.now first end here;
    } in
    and_then (omega (arith, c.decreases)) (and_then c.requires.search (and_then top (and_then c.requires.most (and_then c.cuts.invariant.known c.cuts.invariant.best))))

pub offer_each-returns-clause-best : goal.offer_each-returns-clause-best
offer_each-returns-clause-best t c = λ s at.
    let bar = c.args.search.now in
    let seat = seat-of bar.grammar.now bar.plan.now c.requires.search.plan_of c.args.seat s at in
    let one : c.index.result.now ≡ s = c.index.ensures ∙ get_or_from_slice_get bar.plan.now.seats.items c.args.seat s c.index.result.now at in
    let two : c.index-2.result.now ≡ s = c.index-2.ensures ∙ get_or_from_slice_get bar.plan.now.seats.items c.args.seat s c.index-2.result.now at in
    let first = ap (λ (s : Seat). s.first) one in
    let end = ap (λ (s : Seat). s.end) two in
    let order = seat.order in
    let last : c.cuts.number ≡ s.end = omega (arith, first, end, order) in
    subst (λ n. AreBestChoices (ground_in bar) bar.plan.now c.args.place (pair_of s) c.args.from (RulesBefore bar.grammar.now bar.plan.now s n) c.cuts.best) last (c.cuts.invariant.best s at)
