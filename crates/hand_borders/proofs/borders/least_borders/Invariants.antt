use Rattle.std.proofs.Common.{◌≤◌, ◌-◌, ◌*◌, drop, length, ◌≡◌}
use Rattle.std.specs.Prelude.{All, reverse}
use Rattle.hand_borders.specs.Ways.{AreWays}
use Rattle.hand_borders.proofs.Steps.{AreBest}
use Rattle.hand_borders.proofs.borders.least_borders.Given as goal

abbrev pub invariant-groups : goal.invariant-groups
invariant-groups l = record {
  best : AreBest (drop (length l.groups - l.done) l.groups) l.after (reverse l.list.items);
  ways : All AreWays l.list.items;
  few : All (λ c. c ≤ l.done * 4294967295) l.after;
  long : length l.after ≡ 129;
}
