-- The notes of a performance, from its merged events.
use Rattle.std.specs.Prelude.{◌≡◌, ℕ, ◌≤◌, Bool, false, ◌&&◌, ◌==◌, ◌↔◌, List, [], ◌∷◌, ◌++◌, All, Contains, find, Option, Some, None}
use Rattle.rhythm_base.specs.declared.event.Event.{Event}
use Rattle.rhythm_base.specs.declared.event.What.{What}
use Rattle.rhythm_base.specs.declared.event.What.TheVariants.{On, Off}
use Rattle.rhythm_base.specs.declared.note.Note.{Note}
use Rattle.rhythm_base.specs.Lists.{AreInOrder}
use Rattle.rhythm_base.specs.Performance.{place_of_note}

-- it begins or ends a note of the channel and key
abbrev pub touches : ℕ → ℕ → What → Bool
touches channel key (On c k) = (c == channel) && (k == key)
touches channel key (Off c k) = (c == channel) && (k == key)
touches channel key _ = false

abbrev pub tick_or : ℕ → Option Event → ℕ
tick_or last None = last
tick_or last (Some e) = e.tick

-- a note that begins here ends at the first later event of its channel and key, or with the file
abbrev pub end_of_note : ℕ → ℕ → ℕ → List Event → ℕ
end_of_note last channel key later = tick_or last (find (λ e. touches channel key e.what) later)

abbrev pub begun_at : ℕ → ℕ → What → List Event → List Note
begun_at last tick (On c k) later = record { channel = c; key = k; onset = tick; end = end_of_note last c k later } ∷ []
begun_at last tick _ later = []

-- a note for each note-on
abbrev pub begun : ℕ → List Event → List Note
begun last [] = []
begun last (e ∷ events) = begun_at last e.tick e.what events ++ begun last events

-- of the notes of one channel, key and onset, the one with the greatest end
abbrev pub IsKept : List Note → Note → Type 0
IsKept notes n =
    Contains notes n × All (λ m. m.channel ≡ n.channel → m.key ≡ n.key → m.onset ≡ n.onset → m.end ≤ n.end) notes

-- the kept notes, by channel, onset and key
pub record AreNotes (last : ℕ) (events : List Event) (notes : List Note) : Type 0 where
  pub in_order : AreInOrder place_of_note notes
  pub kept : (n : Note) → Contains notes n ↔ IsKept (begun last events) n
