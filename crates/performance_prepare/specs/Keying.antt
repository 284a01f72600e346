-- A take of one key.
use Rattle.std.specs.Prelude.{ℤ, [], ◌∷◌}
use Rattle.performance_load.specs.Take.{Take}

-- all keys go, and the key of so many sharps, or flats where below 0, stands at tick 0
abbrev pub with_key : ℤ → Take → Take
with_key sf t = record t { key_marks = record { tick = 0; sf = sf } ∷ [] }
