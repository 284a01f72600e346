use Rattle.std.proofs.Common.{◌≡◌, ◌*◌, ◌≤◌}
use Rattle.std.specs.Prelude.{All, map, sum}
use Rattle.durations.specs.declared.joined.Timed.{Timed}
use Rattle.durations.specs.Joined.{IsTimedLeaf}
use Rattle.notation_tests.proofs.lengths.bar.Given as goal

abbrev pub invariant-leaves : goal.invariant-leaves
invariant-leaves l = record {
  leaves : All (IsTimedLeaf l.whole) l.bar.items;
  sum : l.end ≡ sum (map (λ (x : Timed). x.len) l.bar.items);
  few : l.end ≤ 64 * l.whole;
}
