use Rattle.std.proofs.Common.{◌≡◌, ◌-◌, ◌++◌, map}
use Rattle.performance_prepare.specs.Middle.{inner_borders, keys_below, numbers_from, parting}
use Rattle.performance_prepare.specs.Sides.{IsSide}
use Rattle.performance_prepare.proofs.middle.partings.Given as goal

abbrev pub invariant-borders : goal.invariant-borders
invariant-borders l = record {
  list : l.list.items ++ map (parting l.keys) (numbers_from l.border 128) ≡ map (parting l.keys) inner_borders;
  below : IsSide (keys_below (l.border - 1) l.keys) l.below.count l.below.sum;
}
