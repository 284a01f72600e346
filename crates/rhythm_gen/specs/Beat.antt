-- What one beat plays, by its draw v.
use Rattle.std.specs.Prelude.{ℕ, ◌+◌, ◌-◌, ◌*◌, ◌/◌, ◌%◌, ◌==◌, ◌&&◌, if◌then◌else◌, List, [], ◌∷◌}
use Rattle.rhythm_base.specs.declared.note.Note.{Note}
use Rattle.rhythm_gen.specs.declared.figure.Figure.{Figure}
use Rattle.rhythm_gen.specs.declared.figure.Figure.TheVariants.{Rest, One, Two}

-- what kind it is, of 0 to 3: the draw's, but the first beat of a bar, in which it has the place 0, is never of kind 0
abbrev pub kind : ℕ → ℕ → ℕ
kind place v = if (place == 0) && (v % 4 == 0) then 1 else v % 4

-- kind 0 is a rest, kinds 1 and 2 are one note, and kind 3 is two notes
abbrev pub figure : ℕ → Figure
figure k = if k == 0 then Rest else (if k == 3 then Two else One)

-- by how many ticks it is late
abbrev pub shift : ℕ → ℕ
shift v = (v / 4) % 21

-- the key of its notes, in the octave above middle C, or in the one below for channel 1
abbrev pub key : ℕ → ℕ → ℕ
key channel v = 60 - 12 * channel + (v / 84) % 12

-- the notes of a figure that begins at tick t
abbrev pub notes_in_beat : Figure → ℕ → ℕ → ℕ → List Note
notes_in_beat Rest channel key t = []
notes_in_beat One channel key t = record { channel = channel; key = key; onset = t; end = t + 400 } ∷ []
notes_in_beat Two channel key t =
    record { channel = channel; key = key; onset = t; end = t + 180 }
    ∷ record { channel = channel; key = key; onset = t + 240; end = t + 420 }
    ∷ []

-- The notes of a beat. Beats are counted from 0 through the whole piece, four to a bar, and each has 480 ticks.
abbrev pub beat_notes : ℕ → ℕ → ℕ → List Note
beat_notes channel beat v = notes_in_beat (figure (kind (beat % 4) v)) channel (key channel v) (480 * beat + shift v)
