use Rattle.std.proofs.Common.{◌≡◌, length}
use Rattle.grammar_plan.specs.LeafTables.{AreAllFirst}
use Rattle.grammar_plan.proofs.leaf_rules.all_leaf_rules.Given as goal

abbrev pub invariant-symbols : goal.invariant-symbols
invariant-symbols l = record {
  long : length l.leaves.items ≡ l.symbol;
  first : AreAllFirst l.grammar l.leaves.items;
}
