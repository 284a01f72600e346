use Rattle.grammar_plan.specs.QuietRows.{AreQuietRows}
use Rattle.grammar_plan.proofs.quiet_trees.quiet_trees.Given as goal

abbrev pub invariant-widths : goal.invariant-widths
invariant-widths l = AreQuietRows l.grammar l.plan l.quiet l.rows.items l.width 0
