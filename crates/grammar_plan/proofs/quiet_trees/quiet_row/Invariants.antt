use Rattle.std.proofs.Common.{◌≡◌, ℕ, ◌<◌, length, None}
use Rattle.std.specs.Prelude.{slice_index_or}
use Rattle.grammar_plan.specs.Plans.{pair_of}
use Rattle.grammar_plan.proofs.QuietLemmas.{IsBestTree, IsTriedRule}
use Rattle.grammar_plan.proofs.quiet_trees.quiet_row.Given as goal

abbrev pub invariant-cuts : goal.invariant-cuts
invariant-cuts l = record {
  long : length l.row ≡ 5;
  best : (from : ℕ) → from < 5 → IsBestTree l.grammar l.plan l.fn.quiet (pair_of l.fn.seat) from (IsTriedRule l.grammar l.plan l.fn.quiet l.fn.seat l.number) (slice_index_or l.row from None);
}
