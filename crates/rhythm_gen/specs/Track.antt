-- A track of notes, first as a list of events, each with its tick and its message, and then as bytes.
use Rattle.std.specs.Prelude.{ℕ, ◌+◌, List, [], ◌∷◌, ◌++◌}
use Rattle.std.specs.List.{flat_map}
use Rattle.rhythm_base.specs.declared.note.Note.{Note}
use Rattle.smf_bytes.specs.Track.{bytes_from, end_of_track_bytes}

-- the note on of velocity 64, and the note off of velocity 0
abbrev pub events_of : Note → List (ℕ × List ℕ)
events_of n = (n.onset, (144 + n.channel) ∷ n.key ∷ 64 ∷ []) ∷ (n.end, (128 + n.channel) ∷ n.key ∷ 0 ∷ []) ∷ []

-- their bytes after a tick
abbrev pub note_bytes : ℕ → Note → List ℕ
note_bytes tick n = bytes_from tick (events_of n)

-- The events of a track which ends at a tick. The notes of a voice are one by one, each from its onset to its end, so their
-- events, note after note, are in the order of their ticks.
abbrev pub event_bytes : List Note → ℕ → List (ℕ × List ℕ)
event_bytes notes end = flat_map events_of notes ++ (end, end_of_track_bytes) ∷ []

-- the content of a track
abbrev pub track_bytes : List Note → ℕ → List ℕ
track_bytes notes end = bytes_from 0 (event_bytes notes end)
