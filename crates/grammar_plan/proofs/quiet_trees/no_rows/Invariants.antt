use Rattle.std.proofs.Common.{◌≡◌, ℕ, length, None}
use Rattle.grammar_plan.specs.QuietRows.{entry}
use Rattle.grammar_plan.proofs.quiet_trees.no_rows.Given as goal

abbrev pub invariant-rows : goal.invariant-rows
invariant-rows l = record {
  long : length l.rows.items ≡ l._number;
  none : (n from : ℕ) → entry l.rows.items n from ≡ None;
}
