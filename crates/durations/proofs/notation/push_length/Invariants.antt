use Rattle.std.proofs.Common.{◌≡◌, List, ◌++◌}
use Rattle.durations.specs.declared.value.Value.{Value}
use Rattle.durations.specs.Values.{AreValues}
use Rattle.durations.proofs.notation.push_length.Given as goal

abbrev pub invariant-values : goal.invariant-values
invariant-values l = (own : List Value) × (l.values.items ≡ l.fn.values.items ++ own) × ((more : List Value) → AreValues l.left l.grid more → AreValues l.len l.fn.whole (own ++ more))

abbrev pub decreases-values : goal.decreases-values
decreases-values l = l.left
