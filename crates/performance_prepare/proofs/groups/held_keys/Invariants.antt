use Rattle.std.proofs.Common.{◌≡◌, ◌++◌}
use Rattle.std.specs.Prelude.{filter, slice_index}
use Rattle.performance_prepare.specs.Ends.{held_by, holds}
use Rattle.performance_prepare.specs.Middle.{numbers_from}
use Rattle.performance_prepare.proofs.groups.held_keys.Given as goal

abbrev pub invariant-keys : goal.invariant-keys
invariant-keys l =
    l.list.items ++ filter (λ key. holds l.map.tempos l.division (slice_index l.ends key) l.group key) (numbers_from l.key 128)
    ≡ held_by l.map.tempos l.division l.ends l.group
