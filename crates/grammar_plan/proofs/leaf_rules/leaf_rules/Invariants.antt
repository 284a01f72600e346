use Rattle.std.proofs.Common.{◌≡◌, length}
use Rattle.grammar_plan.specs.LeafTables.{AreFirstBelow}
use Rattle.grammar_plan.proofs.leaf_rules.leaf_rules.Given as goal

abbrev pub invariant-rules : goal.invariant-rules
invariant-rules l = record {
  long : length l.row ≡ 7;
  first : AreFirstBelow l.grammar l.symbol l.number l.row;
}
