use Rattle.std.proofs.Common.{◌≡◌, ◌*◌, ◌≤◌, sum_by, take}
use Rattle.std.specs.List.{zip}
use Rattle.weight_learning.specs.Weights.{counted_of, parts_of}
use Rattle.weight_learning.proofs.weights.part_sum.Given as goal

abbrev pub invariant-rules : goal.invariant-rules
invariant-rules l = record {
  sum : l.sum ≡ sum_by (parts_of l.bit l.whole) (counted_of l.symbol (take l.number (zip l.rules l.counts)));
  few : l.sum ≤ l.number * 1073762304;
}
