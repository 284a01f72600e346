-- Where the last note of each key ends, and what is held by it.
use Rattle.std.specs.Prelude.{◌≡◌, ℕ, Bool, ◌<◌, ◌==◌, ◌&&◌, not, nat_lt, List, filter, map, slice_index, Option, Some, None}
use Rattle.rhythm_base.specs.declared.event.Tempo.{Tempo}
use Rattle.rhythm_base.specs.declared.note.Note.{Note}
use Rattle.rhythm_base.specs.Lists.{last_of}
use Rattle.performance_prepare.specs.Elapsed.{milliseconds, time_between}
use Rattle.performance_prepare.specs.Groups.{cost, first_onset}
use Rattle.performance_prepare.specs.Middle.{numbers_from}
use Rattle.performance_prepare.specs.Strum.{strikes}

abbrev pub end_of : Option Note → ℕ
end_of None = 0
end_of (Some n) = n.end

-- by key, 0 where none has it
abbrev pub AreEnds : List ℕ → List Note → Type 0
AreEnds ends notes = (key : ℕ) → key < 128 → slice_index ends key ≡ end_of (last_of (filter (λ n. n.key == key) notes))

-- the last note of the key, which ends there, sounds on past the group's first onset, and the key is not struck in the group
abbrev pub holds : List Tempo → ℕ → ℕ → List Note → ℕ → Bool
holds tempos division end group key =
    not (strikes group key) && nat_lt (milliseconds division 60) (time_between tempos (first_onset group) end)

abbrev pub held_by : List Tempo → ℕ → List ℕ → List Note → List ℕ
held_by tempos division ends group = filter (λ key. holds tempos division (slice_index ends key) group key) (numbers_from 0 128)

-- what each border costs in the group
abbrev pub row_by : List Tempo → ℕ → ℕ → List ℕ → List Note → List ℕ
row_by tempos division middle ends group =
    map (cost middle (map (λ n. n.key) group) (held_by tempos division ends group)) (numbers_from 0 129)
