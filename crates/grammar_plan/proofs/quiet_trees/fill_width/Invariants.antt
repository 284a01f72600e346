use Rattle.grammar_plan.specs.QuietRows.{AreQuietRows}
use Rattle.grammar_plan.proofs.quiet_trees.fill_width.Given as goal

abbrev pub invariant-seats : goal.invariant-seats
invariant-seats l = AreQuietRows l.grammar l.plan l.quiet l.rows.items l.width l.number
