-- What the lines of a script do while a session is edited: the reply to each line, the performance after it, and how many cells
-- are built for it.
use Rattle.std.specs.Prelude.{◌≡◌, ℕ, ◌≤◌, ◌⊎◌, List, IsOk, None, length, ⊤}
use Rattle.kern_writer.specs.PerformanceText.{IsWrittenScore}
use Rattle.edit_laws.specs.Edits.{cell_tests, edited, first_refusal}
use Rattle.rhythm_base.specs.Grammar.{Grammar}
use Rattle.rhythm_base.specs.Performance.{Performance}
use Rattle.edit_laws.specs.Reached.{WouldReach}
use Rattle.edit_script.specs.Replies.{done_text, refused_text}
use Rattle.script_laws.specs.Script.{IsLineStep}
use Rattle.edit_script.specs.ScriptLines.{BeginsPin, SaysCommand}
use Rattle.edit_script.specs.declared.command.Command.{Command}
use Rattle.edit_script.specs.declared.command.Command.TheVariants.{Alternatives, Change, Quit, Score}
use Rattle.rhythm_base.specs.declared.edit.Edit.{Edit}
use Rattle.rhythm_base.specs.declared.edit_fault.EditFault.{EditFault}
use Rattle.rhythm_base.specs.declared.edit_fault.EditFault.TheVariants.{Memory}

abbrev pub Quits : List ℕ → Type 0
Quits line = SaysCommand line Quit

-- how many cells are built for an edit: as many as the reply says; where it is refused, at most those that it would have reached
abbrev pub IsBuiltForEdit : Grammar → Performance → Edit → List ℕ → ℕ → Type 0
IsBuiltForEdit g p edit reply n =
    ((cost : ℕ) × (reply ≡ done_text n cost))
    ⊎ (((fault : EditFault) × (reply ≡ refused_text fault)) × ((cells : List (ℕ × ℕ)) → WouldReach g p edit cells → n ≤ length cells))

-- how many cells are built for a line: none for one that says no edit
pub record IsBuiltFor (g : Grammar) (p : Performance) (line reply : List ℕ) (n : ℕ) : Type 0 where
  pub edit : (edit : Edit) → SaysCommand line (Change edit) → IsBuiltForEdit g p edit reply n
  pub other : ((edit : Edit) → SaysCommand line (Change edit) → ⊥) → n ≡ 0

-- the voice and the bar are there
abbrev pub HasCell : Performance → ℕ → ℕ → Type 0
HasCell p channel bar = first_refusal (cell_tests p channel bar) ≡ None

-- a command that takes memory: an edit that the performance alone does not refuse, the score, the alternatives of a bar of a voice
-- that are there
abbrev pub TakesMemory : Performance → Command → Type 0
TakesMemory p (Change edit) = IsOk (edited p edit)
TakesMemory p Score = ⊤
TakesMemory p (Alternatives channel bar count) = HasCell p channel bar
TakesMemory p Quit = ⊥

-- where memory may be wanting: at the shape of a pin, which is read when its channel and bar are, and before they are looked for; and at
-- a command that takes memory
abbrev pub MayLackMemory : Performance → List ℕ → Type 0
MayLackMemory p line = BeginsPin line ⊎ ((command : Command) × SaysCommand line command × TakesMemory p command)

-- what a line may do: its reply, the performance after it, and how many cells are built for it
pub record AnswersLine (g : Grammar) (p : Performance) (line reply : List ℕ) (n : ℕ) (next : Performance) : Type 0 where
  pub step : IsLineStep (IsWrittenScore g) g p line reply next
  pub memory : reply ≡ refused_text Memory → MayLackMemory p line
  pub built : IsBuiltFor g p line reply n
