-- What is asked of a cell, and why it is not answered.
use Rattle.std.specs.Prelude.{◌≡◌, ℕ, IsTrue, List, None, Some}
use Rattle.edit_session.specs.declared.ask_fault.AskFault.{AskFault}
use Rattle.edit_session.specs.declared.ask_fault.AskFault.TheVariants.{NoVoice, NoBar, Memory}
use Rattle.rhythm_base.specs.declared.edit_fault.EditFault.TheVariants as refusal
use Rattle.edit_laws.specs.Edits.{cell_tests, first_refusal}
use Rattle.rhythm_base.specs.Forest.{Tree}
use Rattle.edit_session.specs.Kept.{AreTablesOfVoice}
use Rattle.rhythm_base.specs.BarTables.{BarTable}
use Rattle.rhythm_base.specs.Grammar.{Grammar}
use Rattle.rhythm_base.specs.Performance.{IsWellFormed, Performance}
use Rattle.tree_laws.specs.Alternatives.{AreBestOfBar}
use Rattle.rhythm_base.specs.Shapes.{is_shape}
use Rattle.rhythm_base.specs.Trees.{shape_of}

-- the first that is wrong: the channel has no voice; else there is no such bar. There may not be enough memory where both are there
abbrev pub IsAskFault : Performance → ℕ → ℕ → AskFault → Type 0
IsAskFault p channel bar (NoVoice c) = first_refusal (cell_tests p channel bar) ≡ Some (refusal.NoVoice c)
IsAskFault p channel bar (NoBar b) = first_refusal (cell_tests p channel bar) ≡ Some (refusal.NoBar b)
IsAskFault p channel bar Memory = first_refusal (cell_tests p channel bar) ≡ None

-- the bar can be pinned to the tree of an alternative: an edit can have its shape
abbrev pub CanBePinned : ℕ × Tree → Type 0
CanBePinned a = IsTrue (is_shape (shape_of a.1.kids))

-- the best trees of a bar of a voice, of whatever performance these are its tables
abbrev pub AreBestByTables : Grammar → List BarTable → ℕ → ℕ → List (ℕ × Tree) → Type 0
AreBestByTables g tables bar count list =
    (p : Performance) (channel : ℕ) → IsWellFormed p → AreTablesOfVoice g p channel tables → AreBestOfBar g p channel bar count list
