use Rattle.std.proofs.Common.{◌≡◌, ◌≤◌, ◌*◌, take}
use Rattle.std.specs.List.{sum}
use Rattle.performance_prepare.proofs.middle.sum_of.Given as goal

abbrev pub invariant-loop-key : goal.invariant-loop-key
invariant-loop-key l = record { total : l.total ≡ sum (take l.key-index l.keys); low : l.total ≤ 127 * l.key-index }
