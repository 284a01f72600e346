use Rattle.std.proofs.Common.{◌≡◌, ◌<◌, ◌++◌, ◌∷◌, length}
use Rattle.std.specs.Prelude.{All, reverse}
use Rattle.hand_borders.specs.Ways.{AreWays, follow}
use Rattle.hand_borders.proofs.borders.followed.Given as goal

abbrev pub invariant-groups : goal.invariant-groups
invariant-groups l = record {
  way : l.borders.items ++ follow (reverse l.ways.items) l.border ≡ l.first ∷ follow (reverse l.fn.ways.items) l.first;
  ways : All AreWays l.ways.items;
  border : l.border < 129;
}

abbrev pub decreases-groups : goal.decreases-groups
decreases-groups l = length l.ways.items
