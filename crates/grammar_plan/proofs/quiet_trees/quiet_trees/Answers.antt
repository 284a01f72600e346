use Rattle.std.proofs.Common.{rules, ◌≡◌, ◌+◌, ◌<◌, List, length, false, sym, subst, arith}
use Rattle.std.specs.Prelude.{Option, slice_index_or}
use Rattle.grammar_plan.specs.QuietRows.{AreQuietRows}
use Rattle.grammar_plan.specs.declared.quiet_tree.QuietTree.{QuietTree}
use Rattle.grammar_plan.proofs.QuietSteps.{rows-absent, rows-all, rows-none, rows-width}
use Rattle.grammar_plan.proofs.quiet_trees.quiet_trees.Goals as goal
use Rattle.grammar_plan.proofs.quiet_trees.quiet_trees.Goals.{then-index, else-index}

pub widths-init : goal.widths-init
widths-init c =
    let long : length c.in_ok-rows.rows.items ≡ length c.args.plan.now.seats.items = search rules in
    rows-none c.args.grammar.now c.args.plan.now c.args.quiet c.in_ok-rows.rows.items c.requires.frame long c.in_ok-rows.ensures.none

pub widths-preserved : goal.widths-preserved
widths-preserved c =
    let g = c.args.grammar.now in
    let plan = c.args.plan.now in
    let w = c.widths.width in
    let marks = c.in_ok-widths.widths.items in
    let M : List (List (Option QuietTree)) → Type 0 = λ l. AreQuietRows g plan c.args.quiet l (w + 1) 0 in
    elim c.if-index.branch [
      | then-index x ↦
          let is : c.if-index.rows.items ≡ x.fill_width.new.rows.items = search rules in
          subst M (sym is) (rows-width g plan c.args.quiet x.fill_width.new.rows.items w (length plan.seats.items) x.fill_width.ensures (omega arith))
      | else-index x ↦
          let is : c.if-index.rows.items ≡ c.widths.rows.items = search rules in
          let low : w < length marks = search rules in
          let off : slice_index_or marks w false ≡ false = search rules in
          subst M (sym is) (rows-absent g plan c.args.quiet c.widths.rows.items w marks c.in_ok-widths.ensures.all low off c.widths.invariant)
    ]

pub returns-clause-least : goal.returns-clause-least
returns-clause-least c =
    let past : c.args.grammar.now.resolution < c.widths.width = search rules in
    rows-all c.args.grammar.now c.args.plan.now c.args.quiet c.widths.rows.items c.widths.width c.requires.frame past c.widths.invariant
