-- The notes of a voice.
use Rattle.std.specs.Prelude.{ℕ, ◌+◌, ◌*◌, ◌<◌, List}
use Rattle.std.specs.List.{flat_map, range_with_len}
use Rattle.rhythm_base.specs.declared.note.Note.{Note}
use Rattle.rhythm_gen.specs.Beat.{beat_notes}
use Rattle.rhythm_gen.specs.Draws.{draw}

-- the notes of its first beats, beat after beat, with a draw for each beat, where the stream has come to `start`
abbrev pub first_beats : ℕ → ℕ → ℕ → List Note
first_beats start channel beats = flat_map (λ beat. beat_notes channel beat (draw start (beat + 1))) (range_with_len 0 beats)

-- the notes of so many bars
abbrev pub voice_notes : ℕ → ℕ → ℕ → List Note
voice_notes start bars channel = first_beats start channel (4 * bars)

-- a note that a track can hold: its channel fits in a status byte, and its ticks in quantities
pub record CanBeWritten (n : Note) : Type 0 where
  pub channel : n.channel < 16
  pub onset : n.onset < 268435456
  pub end : n.end < 268435456
