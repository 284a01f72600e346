-- The next ends of notes, by channel and key: what one event makes of them.
use Rattle.std.specs.Prelude.{ℕ, ◌+◌, ◌*◌, List, slice_index, slice_set, Option, Some, None}
use Rattle.rhythm_base.specs.declared.event.What.{What}
use Rattle.rhythm_base.specs.declared.event.What.TheVariants.{On, Off}
use Rattle.rhythm_base.specs.declared.note.Note.{Note}

-- the note that begins with an event
abbrev pub note_from : List ℕ → ℕ → What → Option Note
note_from ends tick (On c k) = Some (record { channel = c; key = k; onset = tick; end = slice_index ends (128 * c + k) })
note_from ends tick _ = None

-- the next ends from an event on
abbrev pub ends_from : List ℕ → ℕ → What → List ℕ
ends_from ends tick (On c k) = slice_set ends (128 * c + k) tick
ends_from ends tick (Off c k) = slice_set ends (128 * c + k) tick
ends_from ends tick _ = ends
