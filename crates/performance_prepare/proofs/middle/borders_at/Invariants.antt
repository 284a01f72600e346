use Rattle.std.proofs.Common.{◌≡◌, ◌-◌, ◌++◌}
use Rattle.std.specs.Prelude.{◌==◌, filter, slice_index}
use Rattle.performance_prepare.specs.Middle.{inner_borders, numbers_from}
use Rattle.performance_prepare.proofs.middle.borders_at.Given as goal

abbrev pub invariant-borders : goal.invariant-borders
invariant-borders l =
    l.list.items ++ filter (λ b. slice_index l.partings (b - 1) == l.best) (numbers_from l.border 128)
    ≡ filter (λ b. slice_index l.partings (b - 1) == l.best) inner_borders
