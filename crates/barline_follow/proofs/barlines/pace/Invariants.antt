use Rattle.std.proofs.Common.{◌≡◌, ◌<◌, ◌^◌, drop, map, min}
use Rattle.std.specs.List.{fold}
use Rattle.rhythm_base.specs.Barlines.{nominal}
use Rattle.rhythm_base.specs.Lists.{least_of}
use Rattle.barline_follow.proofs.barlines.pace.Given as goal

abbrev pub invariant-bars : goal.invariant-bars
invariant-bars l =
    (l.least < 2 ^ 27)
    × (fold min l.least (map (nominal l.division) (drop l.bar-index l.bar-items)) ≡ least_of (map (nominal l.performance.division) l.performance.bars))
