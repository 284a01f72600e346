-- A take whose strummed chords begin together.
use Rattle.std.specs.Prelude.{ℕ, Bool, ◌+◌, ◌/◌, ◌==◌, ◌&&◌, ◌||◌, ◌-◌, not, nat_le, nat_lt, List, length, map, slice_index}
use Rattle.std.specs.List.{flat_map, list_any}
use Rattle.rhythm_base.specs.declared.event.Tempo.{Tempo}
use Rattle.rhythm_base.specs.declared.note.Note.{Note}
use Rattle.rhythm_base.specs.Lists.{least_of}
use Rattle.performance_load.specs.Take.{Take}
use Rattle.performance_prepare.specs.Drums.{is_drum}
use Rattle.performance_prepare.specs.Elapsed.{milliseconds, time_between}
use Rattle.performance_prepare.specs.Parts.{parts}
use Rattle.performance_prepare.specs.Split.{in_order}

abbrev pub strikes : List Note → ℕ → Bool
strikes notes key = list_any (λ n. n.key == key) notes

-- a note begins at most so many milliseconds after the last of the notes before it, and all of these sound on for more than 40 ms:
-- the notes of a rolled chord sound together, those of a run hardly
abbrev pub rolls_on : List Tempo → ℕ → ℕ → List Note → Note → Note → Bool
rolls_on tempos division within run last n =
    nat_le (time_between tempos last.onset n.onset) (milliseconds division within)
    && nat_lt (milliseconds division 40) (time_between tempos n.onset (least_of (map (λ m. m.end) run)))

-- a note goes on with the strum before it where it is of the same channel, but that of drums, and of another key than all of its
-- notes, and begins with the last of them or rolls on. (A key that is struck again has ended before: so a strum has no key twice.)
abbrev pub joins : List Tempo → ℕ → ℕ → List Note → Note → Note → Bool
joins tempos division within run last n =
    (n.channel == last.channel)
    && (not (is_drum n) && (not (strikes run n.key) && ((n.onset == last.onset) || rolls_on tempos division within run last n)))

abbrev pub strums : List Tempo → ℕ → ℕ → List Note → List (List Note)
strums tempos division within notes = parts (joins tempos division within) notes

-- midway between the first onset and the last, rounded down: some roll from the beat on, some to the beat
abbrev pub midway : List Note → ℕ
midway strum = (slice_index (map (λ n. n.onset) strum) 0 + slice_index (map (λ n. n.onset) strum) (length strum - 1)) / 2

abbrev pub begun_at : ℕ → Note → Note
begun_at tick n = record n { onset = tick }

-- the notes of a strum begin there
abbrev pub together : List Note → List Note
together strum = map (begun_at (midway strum)) strum

abbrev pub strummed_notes : List Tempo → ℕ → ℕ → List Note → List Note
strummed_notes tempos division within notes = flat_map together (strums tempos division within notes)

-- the take whose strums of so many milliseconds from note to note are chords
abbrev pub with_strum : ℕ → Take → Take
with_strum within t = record t { notes = in_order (strummed_notes t.tempos t.division within t.notes) }
