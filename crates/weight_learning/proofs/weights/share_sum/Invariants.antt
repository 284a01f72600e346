use Rattle.std.proofs.Common.{◌≡◌, ◌*◌, ◌≤◌, sum_by, take}
use Rattle.weight_learning.specs.Weights.{rules_of_symbol, share_of}
use Rattle.weight_learning.proofs.weights.share_sum.Given as goal

abbrev pub invariant-rules : goal.invariant-rules
invariant-rules l = record {
  sum : l.sum ≡ sum_by (share_of l.bit) (rules_of_symbol l.symbol (take l.rule-index l.rules));
  few : l.sum ≤ l.rule-index * 2147483648;
}
