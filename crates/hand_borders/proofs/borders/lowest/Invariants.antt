use Rattle.std.proofs.Common.{◌≤◌}
use Rattle.hand_borders.proofs.Passes.{IsLowestBelow}
use Rattle.hand_borders.proofs.borders.lowest.Given as goal

abbrev pub invariant-borders : goal.invariant-borders
invariant-borders l = record { low : IsLowestBelow l.costs l.border l.found; within : l.border ≤ 129 }
