use Rattle.std.proofs.Common.{take}
use Rattle.rule_counts.specs.Counts.{AreCapped, AreRaised}
use Rattle.rule_counts.proofs.rule_counts.RuleCounts.add.Given as goal

abbrev pub invariant-rules : goal.invariant-rules
invariant-rules l = record {
  raised : AreRaised l.initial.self-inside.counts.items (take l.rule-index l.list) l.self-inside.counts.items;
  capped : AreCapped l.self-inside.counts.items;
}
