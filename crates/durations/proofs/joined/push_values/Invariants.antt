use Rattle.std.proofs.Common.{◌≡◌, ◌+◌, ◌++◌, take, drop}
use Rattle.std.specs.Prelude.{map, sum}
use Rattle.durations.specs.Joined.{value_places}
use Rattle.durations.specs.Value.{width}
use Rattle.durations.proofs.joined.push_values.Given as goal

-- what is written so far, with the values that are left, is what is to be written
abbrev pub invariant-values : goal.invariant-values
invariant-values l = record {
  so_far : l.written.items ++ value_places l.whole l.leaf l.from (drop l.value-index l.values) ≡ l.fn.written.items ++ value_places l.whole l.leaf l.place l.values;
  from : l.from ≡ l.place + sum (map (width l.whole) (take l.value-index l.values));
}
