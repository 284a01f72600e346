use Rattle.std.proofs.Common.{◌≡◌, ◌+◌, length}
use Rattle.grammar_plan.specs.QuietRows.{AreMarked}
use Rattle.grammar_plan.proofs.quiet_trees.widths_of.Given as goal

abbrev pub invariant-seats : goal.invariant-seats
invariant-seats l = record {
  long : length l.widths.items ≡ l.widest + 1;
  marked : AreMarked l.plan.seats.items l.number l.widths.items;
}
