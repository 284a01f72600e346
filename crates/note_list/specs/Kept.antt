-- The kept notes of events, in whatever order.
use Rattle.std.specs.Prelude.{◌↔◌, ℕ, Bool, List, Contains, nat_eq}
use Rattle.std.specs.List.{IsDistinct}
use Rattle.std.specs.Cmp.Lexicographic.{pointwise}
use Rattle.rhythm_base.specs.declared.event.Event.{Event}
use Rattle.rhythm_base.specs.declared.note.Note.{Note}
use Rattle.rhythm_base.specs.Notes.{IsKept, begun}
use Rattle.rhythm_base.specs.Performance.{place_of_note}

-- of one channel, onset and key
abbrev pub same_place : Note → Note → Bool
same_place m n = pointwise nat_eq (place_of_note m) (place_of_note n)

-- the kept notes, each once
pub record AreKeptNotes (last : ℕ) (events : List Event) (notes : List Note) : Type 0 where
  pub once : IsDistinct same_place notes
  pub kept : (n : Note) → Contains notes n ↔ IsKept (begun last events) n
