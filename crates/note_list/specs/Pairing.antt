-- What the pairing of note-ons with their ends comes to.
use Rattle.rhythm_base.specs.declared.limits.TheConstants.{MOST_NOTES}
use Rattle.std.specs.Prelude.{◌≡◌, ◌≤◌, ◌<◌, ◌+◌, ◌*◌, ℕ, Bool, true, false, List, length, slice_index_or, Option, None, All, ⊤}
use Rattle.rhythm_base.specs.declared.event.Event.{Event}
use Rattle.rhythm_base.specs.declared.event.What.{What}
use Rattle.rhythm_base.specs.declared.event.What.TheVariants.{On, Off}
use Rattle.rhythm_base.specs.declared.note.Note.{Note}
use Rattle.rhythm_base.specs.Notes.{AreNotes}
use Rattle.note_list.specs.declared.fault.NoteFault.{NoteFault}
use Rattle.note_list.specs.declared.fault.NoteFault.TheVariants.{NoNotes, TooManyNotes, Memory}

-- it is of one of 16 channels and 128 keys, where it is of any
abbrev pub IsPlayable : What → Type 0
IsPlayable (On c k) = (c < 16) × (k < 128)
IsPlayable (Off c k) = (c < 16) × (k < 128)
IsPlayable _ = ⊤

-- an event of a file with this last tick
pub record IsEventOf (last : ℕ) (e : Event) : Type 0 where
  pub tick : e.tick ≤ last
  pub keyed : IsPlayable e.what

abbrev pub begins : What → Bool
begins (On _ _) = true
begins _ = false

-- no note begins
abbrev pub AreSilent : List Event → Type 0
AreSilent events = All (λ e. begins e.what ≡ false) events

-- a note of a file with this last tick
pub record IsPlayed (last : ℕ) (n : Note) : Type 0 where
  pub channel : n.channel < 16
  pub key : n.key < 128
  pub after : n.onset ≤ n.end
  pub within : n.end ≤ last

-- the onset of the note that was put last at the channel and the key of a note
abbrev pub onset_at : List (Option ℕ) → Note → Option ℕ
onset_at onsets n = slice_index_or onsets (128 * n.channel + n.key) None

-- the notes of events: there are some, and not too many
pub record ArePaired (last : ℕ) (events : List Event) (list : List Note) : Type 0 where
  pub sounding : AreSilent events → ⊥
  pub notes : AreNotes last events list
  pub few : length list ≤ MOST_NOTES

-- that there are none, or the number of those that are too many; want of memory says nothing of them
abbrev pub IsNoteFault : ℕ → List Event → NoteFault → Type 0
IsNoteFault last events NoNotes = AreSilent events
IsNoteFault last events (TooManyNotes count) = (notes : List Note) × AreNotes last events notes × (length notes ≡ count) × (MOST_NOTES < count)
IsNoteFault last events Memory = ⊤

-- the notes of events are one list
abbrev pub NotesAreOne : Type 0
NotesAreOne = (last : ℕ) (events : List Event) (some other : List Note) → AreNotes last events some → AreNotes last events other → some ≡ other
