use Rattle.std.proofs.Common.{◌≡◌, ◌<◌, ◌≤◌, ◌+◌, ◌*◌, ◌++◌, ℕ, List}
use Rattle.row_laws.specs.QuietTrees.{IsQuietList}
use Rattle.grammar_plan.specs.Plans.{HaveSeats, between}
use Rattle.grammar_plan.specs.Drafts.{IsLonger}
use Rattle.least_rows.proofs.PlanSeats.{seat_measure}
use Rattle.least_rows.proofs.quiet_lists.+quiet_lists.Given as goal

-- the parts that are left, and what is left of their list
abbrev pub invariant-write_quiet_parts-parts : goal.invariant-write_quiet_parts-parts
invariant-write_quiet_parts-parts l = record {
  order : l.initial.part ≤ l.part;
  grows : IsLonger l.initial.list.items l.list.items;
  rest : (qs : List (ℕ × ℕ)) (xs : List ℕ) → HaveSeats l.plan (between l.plan.parts.items l.initial.part l.part-end) qs → IsQuietList l.grammar l.quiet qs l.fn.from xs
      → (rs : List (ℕ × ℕ)) × (ys : List ℕ) × HaveSeats l.plan (between l.plan.parts.items l.part l.part-end) rs × IsQuietList l.grammar l.quiet rs l.carried ys × (l.list.items ++ ys ≡ l.initial.list.items ++ xs);
}

-- of a tree after that of its seat, and of the parts after that of the tree
abbrev pub decreases-write_quiet : goal.decreases-write_quiet
decreases-write_quiet l = 3 * seat_measure l.plan.now l.seat + 2

abbrev pub decreases-write_tree : goal.decreases-write_tree
decreases-write_tree l = 3 * seat_measure l.plan.now l.seat + 1

abbrev pub decreases-write_quiet_parts : goal.decreases-write_quiet_parts
decreases-write_quiet_parts l = 3 * seat_measure l.plan.now l.seat
