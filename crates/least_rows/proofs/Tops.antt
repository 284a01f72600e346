-- The parts of a cut that is on top, and the ways over them.
use Rattle.std.proofs.Common.{◌≡◌, ℕ, suc, ◌+◌, ◌-◌, ◌<◌, ◌≤◌, List, get_or, length, take, refl, sym, ap, subst, arith}
use Rattle.std.specs.Prelude.{Option, Some, None, slice_get, slice_index_or}
use Rattle.std.proofs.lemmas.Option.{slice_get_read}
use Rattle.rhythm_base.specs.Bodies.{sizes}
use Rattle.tree_laws.specs.Forests.{Ground}
use Rattle.row_laws.proofs.Grounds.{bounds, grounded}
use Rattle.grammar_plan.specs.Plans.{IsSeat, pair_of}
use Rattle.grammar_plan.specs.declared.cut.Cut.{Cut}
use Rattle.grammar_plan.specs.declared.seat.Seat.{Seat}
use Rattle.least_rows.specs.Searches.{ground_in, IsSearch}
use Rattle.least_rows.specs.declared.search.Search.{Search}
use Rattle.least_rows.specs.Ways.{AreShort, AreWays, AreWaysOn, IsSmallWay, one_way}
use Rattle.least_rows.specs.Places.{IsSeatPlace, width_at, width_of}
use Rattle.least_rows.specs.Steps.{AreWaysOver}
use Rattle.least_rows.specs.Tops.{IsTop, parts_below}
use Rattle.least_rows.specs.declared.top.Top.{Top}
use Rattle.least_rows.specs.declared.way.Way.{Way}
use Rattle.least_rows.proofs.Asked.{seat-of}
use Rattle.least_rows.proofs.Cutting.{cut-few, cut-long, cut-whole, cut-wide, part-below, part-inside, part-next, part-seat}
use Rattle.least_rows.proofs.FirstWays.{ways-first, ways-low, ways-none, ways-short, ways-then}

-- a part of the cut, which begins at this unit
pub record IsPart (bar : Search) (top : Top) (cut : Cut) (t : IsTop bar top cut) (part own at : ℕ) : Type 0 where
  pub seat : Seat
  pub there : slice_get bar.plan.now.seats.items own ≡ Some seat
  pub inside : part - cut.first < length (parts_below bar top cut t)
  pub pair : pair_of seat ≡ slice_index_or (parts_below bar top cut t) (part - cut.first) (0, 0)
  pub within : at + seat.width ≤ bar.input.now.resolution
  pub next : at + seat.width ≡ top.place + sizes (take (suc (part - cut.first)) (parts_below bar top cut t))
  pub less : seat.width < t.seat.width
  pub few : part - cut.first ≤ 16

module _ (bar : Search) (is : IsSearch bar) (top : Top) (cut : Cut) (t : IsTop bar top cut) where
  abbrev qs : List (ℕ × ℕ)
  qs = parts_below bar top cut t

  abbrev d : Ground
  d = ground_in bar

  zone : IsSeat bar.grammar.now bar.plan.now t.seat
  zone = seat-of bar.grammar.now bar.plan.now is.plan_of top.seat t.seat t.at

  pub part-of : (part own at : ℕ) → cut.first ≤ part → part < cut.end → own ≡ get_or bar.plan.now.parts.items part own → at ≡ top.place + sizes (take (part - cut.first) qs) → IsPart bar top cut t part own at
  part-of part own at low high read begin =
      let end = t.is.within in
      let here : slice_get bar.plan.now.parts.items part ≡ Some own = slice_get_read bar.plan.now.parts.items (length bar.plan.now.parts.items) part own refl (omega (arith, high, end)) read in
      let ps = part-seat bar.grammar.now bar.input.now bar.plan.now is.ready t.seat zone cut t.is part own low high here in
      let u = ps.1.0 in
      let width : u.width ≡ (slice_index_or qs (part - cut.first) (0, 0)).0 = ap (λ (q : ℕ × ℕ). q.0) ps.1.2 in
      let upto = part-inside bar.grammar.now bar.input.now bar.plan.now is.ready t.seat zone cut t.is (part - cut.first) ps.0 in
      let below = part-below bar.grammar.now bar.input.now bar.plan.now is.ready t.seat zone cut t.is (part - cut.first) ps.0 in
      let step = part-next bar.grammar.now bar.input.now bar.plan.now is.ready t.seat zone cut t.is (part - cut.first) ps.0 in
      let far = t.within in
      let few = cut-few bar.grammar.now bar.input.now bar.plan.now is.ready t.seat zone cut t.is in
      let some = ps.0 in
      record {
        seat = u;
        there = ps.1.1;
        inside = ps.0;
        pair = ps.1.2;
        within = omega (arith, begin, width, upto, far);
        next = omega (arith, begin, step, width);
        less = omega (arith, width, below);
        few = omega (arith, few, some);
      }

  pub part-place : (part own at : ℕ) → IsPart bar top cut t part own at → IsSeatPlace bar own at
  part-place part own at x = (x.seat, x.there, x.within)

  pub part-less : (part own at : ℕ) → IsPart bar top cut t part own at → width_at bar.plan.now own < width_at bar.plan.now top.seat
  part-less part own at x =
      let own-width : width_at bar.plan.now own ≡ x.seat.width = ap width_of x.there in
      let whole : width_at bar.plan.now top.seat ≡ t.seat.width = ap width_of t.at in
      let less = x.less in
      omega (arith, own-width, whole, less)

  whole : sizes qs ≡ t.seat.width
  whole = cut-whole bar.grammar.now bar.input.now bar.plan.now is.ready t.seat zone cut t.is

  pub few-parts : (part : ℕ) → part ≤ cut.end → part - cut.first ≤ 16
  few-parts part end =
      let few = cut-few bar.grammar.now bar.input.now bar.plan.now is.ready t.seat zone cut t.is in
      let long = cut-long bar.grammar.now bar.plan.now t.seat cut t.is in
      omega (arith, end, few, long)

  pub cut-most : cut.end - cut.first ≤ 16
  cut-most = few-parts cut.end (omega arith)

  pub to-short : (n : ℕ) → n ≤ 16 → (ways : ℕ → Option Way) → AreWays d top.place qs top.from n ways → AreShort ways
  to-short n few ways h =
      let all = whole in
      let wide = zone.within in
      ways-short d (grounded bar.grammar.now bar.input.now is.ready) (bounds bar.grammar.now bar.input.now is.ready) top.place top.from qs (cut-wide bar.grammar.now bar.input.now bar.plan.now is.ready t.seat zone cut t.is) (omega (arith, all, wide)) n few ways h

  pub to-low : (part : ℕ) → part < cut.end → (ways : ℕ → Option Way) → AreWays d top.place qs top.from (part - cut.first) ways → (m : ℕ) (w : Way) → m < 5 → ways m ≡ Some w → IsSmallWay w
  to-low part high ways h =
      let few = cut-few bar.grammar.now bar.input.now bar.plan.now is.ready t.seat zone cut t.is in
      let long = cut-long bar.grammar.now bar.plan.now t.seat cut t.is in
      let order = t.is.order in
      ways-low d top.place top.from qs (part - cut.first) (omega (arith, high, few, long, order)) ways h (to-short (part - cut.first) (omega (arith, high, few, long, order)) ways h)

  pub to-first : (top.place ≡ top.place + sizes (take (cut.first - cut.first) qs)) × AreWays d top.place qs top.from (cut.first - cut.first) (one_way (record { cost = 0; order = 0; way = 0 }) top.from)
  to-first =
      let none : cut.first - cut.first ≡ 0 = omega arith in
      let begin : top.place ≡ top.place + 0 = omega arith in (
        subst (λ n. top.place ≡ top.place + sizes (take n qs)) (sym none) begin,
        subst (λ n. AreWays d top.place qs top.from n (one_way (record { cost = 0; order = 0; way = 0 }) top.from)) (sym none) (ways-first d top.place top.from t.few qs),
      )

  pub to-next : (part own at width : ℕ) → cut.first ≤ part → (x : IsPart bar top cut t part own at) → at ≡ top.place + sizes (take (part - cut.first) qs) → width ≡ x.seat.width
      → (ways next : ℕ → Option Way) → AreWays d top.place qs top.from (part - cut.first) ways → AreWaysOver bar own at ways next
      → (at + width ≡ top.place + sizes (take (part + 1 - cut.first) qs)) × AreWays d top.place qs top.from (part + 1 - cut.first) next
  to-next part own at width low x begin same ways next h on =
      let number : suc (part - cut.first) ≡ part + 1 - cut.first = omega (arith, low) in
      let step = x.next in
      let place : at + width ≡ top.place + sizes (take (suc (part - cut.first)) qs) = omega (arith, same, step) in (
        subst (λ n. at + width ≡ top.place + sizes (take n qs)) number place,
        subst (λ n. AreWays d top.place qs top.from n next) number
            (ways-then d (grounded bar.grammar.now bar.input.now is.ready) top.place top.from t.few qs (cut-wide bar.grammar.now bar.input.now bar.plan.now is.ready t.seat zone cut t.is) (part - cut.first) x.inside ways next h at (pair_of x.seat) begin x.pair (on x.seat x.there)),
      )

  pub to-whole : (part : ℕ) → part ≡ cut.end → (ways : ℕ → Option Way) → AreWays d top.place qs top.from (part - cut.first) ways → AreWays d top.place qs top.from (length qs) ways
  to-whole part end ways h =
      let long = cut-long bar.grammar.now bar.plan.now t.seat cut t.is in
      subst (λ n. AreWays d top.place qs top.from n ways) (omega (arith, long, end)) h

  pub to-nowhere : (part : ℕ) → part ≤ cut.end → AreWays d top.place qs top.from (part - cut.first) (λ b. None) → AreWays d top.place qs top.from (length qs) (λ b. None)
  to-nowhere part end h =
      let long = cut-long bar.grammar.now bar.plan.now t.seat cut t.is in
      let order = t.is.order in
      ways-none d (grounded bar.grammar.now bar.input.now is.ready) top.place top.from t.few qs (cut-wide bar.grammar.now bar.input.now bar.plan.now is.ready t.seat zone cut t.is) (part - cut.first) (length qs - (part - cut.first)) (omega (arith, long, end, order)) h

  -- over the last part
  pub to-last : (part at : ℕ) → cut.first ≤ part → part + 1 ≡ cut.end → at ≡ top.place + sizes (take (part - cut.first) qs) → (ways next : ℕ → Option Way) → AreWays d top.place qs top.from (part - cut.first) ways
      → AreWaysOn d at (slice_index_or qs (part - cut.first) (0, 0)) ways next → AreWays d top.place qs top.from (length qs) next
  to-last part at low last begin ways next h on =
      let long = cut-long bar.grammar.now bar.plan.now t.seat cut t.is in
      let number : suc (part - cut.first) ≡ length qs = omega (arith, long, low, last) in
      subst (λ n. AreWays d top.place qs top.from n next) number
      (ways-then d (grounded bar.grammar.now bar.input.now is.ready) top.place top.from t.few qs (cut-wide bar.grammar.now bar.input.now bar.plan.now is.ready t.seat zone cut t.is) (part - cut.first) (omega (arith, long, low, last)) ways next h at (slice_index_or qs (part - cut.first) (0, 0)) begin refl on)
