use Rattle.std.proofs.Common.{rules, ◌≡◌, ◌∙◌, ◌<◌, ◌≤◌, ◌+◌, ◌⊎◌, [], ◌∷◌, ◌++◌, length, get_or, take, sym, ap, subst, arith}
use Rattle.std.specs.Prelude.{Some, slice_set}
use Rattle.std.specs.Vec.{vec_len}
use Rattle.std.proofs.lemmas.List.{length-set, take_all, take_more}
use Rattle.rhythm_base.specs.Grammar.{Grammar}
use Rattle.rhythm_base.specs.declared.grammar.Start.{Start}
use Rattle.grammar_plan.specs.Drafts.{HasPair}
use Rattle.grammar_plan.specs.Plans.{HaveSeatsOverBars}
use Rattle.grammar_plan.proofs.SeatLemmas.{lawful-next, roots-next, start-low, starts-next}
use Rattle.grammar_plan.proofs.seats.root_seats.Goals as goal

pub index_mut-requires : goal.index_mut-requires
index_mut-requires c =
    let g = c.args.grammar.now in
    let starts = c.deref-start-items.result.now in
    let value : starts ≡ g.starts = c.deref-start-items.ensures.value ∙ ap (λ (h : Grammar). h.starts) c.grammar.view_is in
    let within : c.starts.start-index < length g.starts = search rules in
    let low = start-low g starts c.starts.start-index (record { num = 0; den = 0; symbol = 0 }) c.requires.readable value within in
    let own : vec_len c.starts.seats ≡ length c.starts.seats.items = search rules in
    omega (arith, low, own, c.starts.invariant.long)

pub starts-preserved : goal.starts-preserved
starts-preserved c =
    let g = c.args.grammar.now in
    let r = g.resolution in
    let names = length g.names in
    let starts = c.deref-start-items.result.now in
    let i = c.starts.start-index in
    let none : Start = record { num = 0; den = 0; symbol = 0 } in
    let start : Start = get_or starts i none in
    let value : starts ≡ g.starts = c.deref-start-items.ensures.value ∙ ap (λ (h : Grammar). h.starts) c.grammar.view_is in
    let within : i < length g.starts = search rules in
    let named = start-low g starts i none c.requires.readable value within in
    let old = c.starts.pairs.found.items in
    let new = c.seat.new.self.found.items in
    let seats = c.starts.seats.items in
    let seat = c.in_ok-seat.seat in
    let own : c.grammar.inside.resolution ≡ r = search rules in
    let more : (new ≡ old) ⊎ (new ≡ old ++ (r, start.symbol) ∷ []) =
    subst (λ k. (new ≡ old) ⊎ (new ≡ old ++ (k, start.symbol) ∷ [])) own c.in_ok-seat.ensures.more in
    let has : HasPair new seat (r, start.symbol) = subst (λ k. HasPair new seat (k, start.symbol)) own c.in_ok-seat.ensures.seat in
    let next = starts-next seat seats (take i g.starts) start (omega (arith, named, c.starts.invariant.long)) c.starts.invariant.starts in
    let so_far : take (i + 1) g.starts ≡ take i g.starts ++ start ∷ [] =
    take_more g.starts i none within ∙ ap (λ xs. take i g.starts ++ get_or xs i none ∷ []) (sym value) in
    record {
      long = length-set seats start.symbol (Some seat) ∙ c.starts.invariant.long;
      lawful = lawful-next r names start.symbol old new c.starts.invariant.lawful c.requires.readable.ranges.some_unit named more;
      roots = roots-next r start.symbol seat old new seats c.starts.invariant.roots more has;
      starts = subst (HaveSeatsOverBars (slice_set seats start.symbol (Some seat))) (sym so_far) next;
    }

pub returns-clause-starts : goal.returns-clause-starts
returns-clause-starts c =
    let g = c.args.grammar.now in
    let end : length g.starts ≤ c.starts.start-index = search rules in
    subst (HaveSeatsOverBars c.starts.seats.items) (take_all c.starts.start-index g.starts end) c.starts.invariant.starts
