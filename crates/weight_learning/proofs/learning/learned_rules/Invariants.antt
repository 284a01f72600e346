use Rattle.std.proofs.Common.{◌≡◌, map, take}
use Rattle.std.specs.List.{zip}
use Rattle.weight_learning.specs.Learned.{learned_rule}
use Rattle.weight_learning.proofs.learning.learned_rules.Given as goal

abbrev pub invariant-rules : goal.invariant-rules
invariant-rules l = l.learned.items ≡ map (learned_rule l.bit l.rules l.counts) (take l.number (zip l.rules l.counts))
