use Rattle.std.proofs.Common.{◌≡◌, ◌++◌, drop, None}
use Rattle.voice_values.specs.Values.{values_of_sounds}
use Rattle.voice_values.proofs.voice_value.values_for.Given as goal

-- the values so far, with those of what is left, are all
abbrev pub invariant-written : goal.invariant-written
invariant-written l = l.values.items ++ values_of_sounds l.sounds l.before (drop l.value-index l.written) ≡ values_of_sounds l.sounds None l.written
