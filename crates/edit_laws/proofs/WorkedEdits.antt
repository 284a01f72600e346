-- The refusals and the changes of a voice of four quarter notes, 480 ticks each, in one bar of 4/4.
use Rattle.std.specs.Prelude.{◌≡◌, ℕ, List, [], ◌∷◌, Ok, Err, refl}
use Rattle.rhythm_base.specs.declared.edit.Edit.TheVariants.{Add, Drop, Move, Barline, AddBar, DropBar, Pin, Unpin}
use Rattle.rhythm_base.specs.declared.edit_fault.EditFault.TheVariants.{NoVoice, NoBar, BadSpan, NoNote, SameNote, PastEnd, BarlineOrder, NoteOutside, NotEmpty, OneBar}
use Rattle.rhythm_base.specs.declared.note.Bar.{Bar}
use Rattle.rhythm_base.specs.declared.note.Note.{Note}
use Rattle.edit_laws.specs.Edits.{edited}
use Rattle.rhythm_base.specs.Shape.{Shape, end, part}
use Rattle.rhythm_base.specs.Performance.{Performance}

abbrev note : ℕ → ℕ → ℕ → Note
note key onset until = record { channel = 0; key = key; onset = onset; end = until }

abbrev bar : ℕ → Bar
bar start = record { start = start; num = 4; den = 4 }

abbrev performed : List Bar → ℕ → List Note → Performance
performed bars last notes = record {
  division = 480;
  tempos = [];
  key_marks = [];
  bars = bars;
  last = last;
  channels = 0 ∷ [];
  notes = notes;
  pins = [];
}

abbrev quarters : List Note
quarters = note 60 0 480 ∷ note 62 480 960 ∷ note 64 960 1440 ∷ note 65 1440 1920 ∷ []

abbrev four : Performance
four = performed (bar 0 ∷ []) 1920 quarters

no_voice : edited four (Add 1 60 0 10) ≡ Err (NoVoice 1)
no_voice = refl

bad_span : edited four (Add 0 60 10 5) ≡ Err BadSpan
bad_span = refl

same_note : edited four (Add 0 60 0 480) ≡ Err SameNote
same_note = refl

past_end : edited four (Add 0 61 1800 2000) ≡ Err (PastEnd 1920)
past_end = refl

no_note : edited four (Drop 0 61 0) ≡ Err NoNote
no_note = refl

moved_past_end : edited four (Move 0 60 0 1900) ≡ Err (PastEnd 1920)
moved_past_end = refl

first_barline : edited four (Barline 0 5) ≡ Err (NoBar 0)
first_barline = refl

note_outside : edited four (Barline 1 1000) ≡ Err (NoteOutside 960)
note_outside = refl

one_bar : edited four DropBar ≡ Err OneBar
one_bar = refl

-- a note is put at its place
put_in : edited four (Add 0 64 10 480) ≡ Ok (performed (bar 0 ∷ []) 1920 (note 60 0 480 ∷ note 64 10 480 ∷ note 62 480 960 ∷ note 64 960 1440 ∷ note 65 1440 1920 ∷ []))
put_in = refl

-- a note that stays changes nothing
stays : edited four (Move 0 60 0 0) ≡ Ok four
stays = refl

-- a note keeps its length
moved : edited four (Move 0 60 0 700) ≡ Ok (performed (bar 0 ∷ []) 1920 (note 62 480 960 ∷ note 60 700 1180 ∷ note 64 960 1440 ∷ note 65 1440 1920 ∷ []))
moved = refl

abbrev two : Performance
two = performed (bar 0 ∷ bar 1920 ∷ []) 3840 quarters

added : edited four AddBar ≡ Ok two
added = refl

dropped : edited two DropBar ≡ Ok four
dropped = refl

-- a note over the barline stands in the way of dropping the bar
not_empty : edited (performed (bar 0 ∷ bar 1920 ∷ []) 3840 (note 60 0 480 ∷ note 60 1920 2400 ∷ [])) DropBar ≡ Err (NotEmpty 1920)
not_empty = refl

-- the second barline moves between its neighbours
barline_moves : edited two (Barline 1 2000) ≡ Ok (performed (bar 0 ∷ bar 2000 ∷ []) 3840 quarters)
barline_moves = refl

barline_order : edited two (Barline 1 3840) ≡ Err (BarlineOrder 0 3840)
barline_order = refl

abbrev halves : Shape
halves = part end (part end end)

-- a pin takes the place of an older one, and dropping the bar drops it
pinned : edited two (Pin 0 1 halves) ≡ Ok (record two { pins = record { channel = 0; bar = 1; shape = halves } ∷ [] })
pinned = refl

pinned_anew : edited (record two { pins = record { channel = 0; bar = 1; shape = end } ∷ [] }) (Pin 0 1 halves) ≡ Ok (record two { pins = record { channel = 0; bar = 1; shape = halves } ∷ [] })
pinned_anew = refl

dropped_with_pin : edited (record two { pins = record { channel = 0; bar = 1; shape = end } ∷ [] }) DropBar ≡ Ok four
dropped_with_pin = refl

unpinned_without : edited two (Unpin 0 1) ≡ Ok two
unpinned_without = refl

no_such_bar : edited two (Pin 0 2 halves) ≡ Err (NoBar 2)
no_such_bar = refl
