use Rattle.std.proofs.Common.{◌≡◌, sym, subst}
use Rattle.std.specs.Prelude.{Some, slice_get}
use Rattle.grammar_plan.specs.Plans.{pair_of}
use Rattle.grammar_plan.specs.declared.seat.Seat.{Seat}
use Rattle.least_rows.specs.Searches.{ground_in}
use Rattle.least_rows.specs.Entries.{IsRow}
use Rattle.least_rows.specs.States.{IsRowAt}
use Rattle.least_rows.proofs.PlanSeats.{root-place}
use Rattle.least_rows.proofs.RootRows.{row_root}
use Rattle.least_rows.proofs.roots.root_bests.Goals as goal

pub row-requires-clause-place : goal.row-requires-clause-place
row-requires-clause-place c = root-place c.args.search.now c.args.root c.requires.root

pub entries_of-requires : goal.entries_of-requires
entries_of-requires c =
    let seat = c.requires.root in
    let row : (s : Seat) → slice_get c.args.search.now.plan.now.seats.items c.args.root ≡ Some s → IsRowAt c.args.search.now c.row.new.self.entries.items 0 (pair_of s) c.args.from c.in_ok-span.span
    = c.in_ok-span.ensures.row in
    (row seat.0 seat.1).within

pub returns-clause-bests : goal.returns-clause-bests
returns-clause-bests c =
    let bar = c.args.search.now in
    let seat = c.requires.root in
    let row : (s : Seat) → slice_get c.args.search.now.plan.now.seats.items c.args.root ≡ Some s → IsRowAt c.args.search.now c.row.new.self.entries.items 0 (pair_of s) c.args.from c.in_ok-span.span
    = c.in_ok-span.ensures.row in
    let own = subst (IsRow (ground_in bar) bar.plan.now 0 (pair_of seat.0) c.args.from) (sym c.entries_of.ensures) (row seat.0 seat.1).row in
    row_root bar.grammar.now bar.input.now bar.plan.now c.args.from c.entries_of.result.now c.bests_in.result c.bests_in.ensures.long (subst (λ q. IsRow (ground_in bar) bar.plan.now 0 q c.args.from c.entries_of.result.now) seat.2 own) c.bests_in.ensures.each
