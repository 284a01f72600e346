use Rattle.std.proofs.Common.{◌≡◌, ◌==◌, ◌&&◌, false, nat_lt, take}
use Rattle.std.specs.List.{list_any, zip}
use Rattle.weight_learning.proofs.weights.is_used.Given as goal

abbrev pub invariant-rules : goal.invariant-rules
invariant-rules l = list_any (λ q. (q.0.lhs == l.symbol) && nat_lt 0 q.1) (take l.number (zip l.rules l.counts)) ≡ false
