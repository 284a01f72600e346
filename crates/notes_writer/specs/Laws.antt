-- The laws, each as one statement over the definitions.
use Rattle.std.specs.Prelude.{◌≡◌, ℕ, List}
use Rattle.rhythm_base.specs.Performance.{IsWellFormed, Performance}
use Rattle.notes_writer.specs.NotesText.{IsNotesText}
use Rattle.notes_writer.specs.Told.{AreToldAlike, HasTicksInRange}

-- a performance has one text
abbrev pub NotesTextsAreOne : Type 0
NotesTextsAreOne = (p : Performance) (some other : List ℕ) → IsNotesText p some → IsNotesText p other → some ≡ other

-- performances of one text are alike in all that it tells
abbrev pub TextsTellPerformances : Type 0
TextsTellPerformances =
    (p q : Performance) (text : List ℕ) → IsWellFormed p → IsWellFormed q → HasTicksInRange p → HasTicksInRange q
    → IsNotesText p text → IsNotesText q text → AreToldAlike p q
