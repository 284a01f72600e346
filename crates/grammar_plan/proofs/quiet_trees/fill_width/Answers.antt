use Rattle.std.proofs.Common.{rules, ◌≡◌, ◌≢◌, ◌+◌, ◌<◌, length, refl, sym, subst}
use Rattle.std.specs.Prelude.{Some, slice_get, slice_set}
use Rattle.std.proofs.lemmas.Option.{slice_get_read}
use Rattle.grammar_plan.specs.QuietRows.{AreQuietRows}
use Rattle.grammar_plan.proofs.QuietSteps.{rows-next, rows-skip}
use Rattle.grammar_plan.proofs.quiet_trees.fill_width.Goals as goal
use Rattle.grammar_plan.proofs.quiet_trees.fill_width.Goals.{then-seat-width, else-seat-width}

pub seats-preserved : goal.seats-preserved
seats-preserved c =
    let g = c.args.grammar.now in
    let plan = c.args.plan.now in
    let m = c.seats.number in
    let w = c.args.width in
    let s = c.index-seat.result.now in
    let rows = c.seats.rows.items in
    let within : m < length plan.seats.items = search rules in
    let at : slice_get plan.seats.items m ≡ Some s = slice_get_read plan.seats.items (length plan.seats.items) m s refl within c.index-seat.ensures in
    elim c.if-seat-width.branch [
      | then-seat-width x ↦
          let is : c.if-seat-width.rows.items ≡ slice_set rows m x.quiet_row.result = search rules in
          subst (λ l. AreQuietRows g plan c.args.quiet l w (m + 1)) (sym is) (rows-next g plan c.args.quiet rows w m c.seats.invariant s x.quiet_row.result at x.quiet_row.ensures.long x.quiet_row.ensures.least)
      | else-seat-width x ↦
          let is : c.if-seat-width.rows.items ≡ rows = search rules in
          let other : s.width ≢ w = search rules in
          subst (λ l. AreQuietRows g plan c.args.quiet l w (m + 1)) (sym is) (rows-skip g plan c.args.quiet rows w m c.seats.invariant s at other)
    ]
