-- The edits of a script file, which are made before a command does anything else.
use Rattle.std.specs.Prelude.{◌≡◌, ℕ, ◌+◌, ◌≤◌, ◌⊎◌, List, [], ◌∷◌, length, Option, Some, None, Result, Ok, Err}
use Rattle.edit_laws.specs.EditOutcomes.{IsOutcome, IsRefused, made}
use Rattle.edit_laws.specs.Reached.{WouldReach}
use Rattle.edit_script.specs.ScriptLines.{SaysCommand}
use Rattle.edit_script.specs.declared.command.Command.TheVariants.{Change}
use Rattle.edit_session.specs.Opening.{cells_of}
use Rattle.rhythm_base.specs.Grammar.{Grammar}
use Rattle.rhythm_base.specs.Performance.{Performance}
use Rattle.rhythm_base.specs.declared.edit.Edit.{Edit}
use Rattle.rhythm_base.specs.declared.edit_fault.EditFault.{EditFault}
use Rattle.rhythm_base.specs.declared.limits.TheConstants.{LONGEST_SCRIPT_LINE}

-- a performance by a grammar, as edited so far, and how many cells were built for it
pub record Opened : Type 0 where
  pub grammar : Grammar
  pub performance : Performance
  pub built : ℕ

-- as it was loaded: each of its cells is built
abbrev pub opened_on : Grammar → Performance → Opened
opened_on g p = record { grammar = g; performance = p; built = cells_of p }

-- after an edit for which so many cells were built
abbrev pub edited_to : Opened → Performance → ℕ → Opened
edited_to o p n = record { grammar = o.grammar; performance = p; built = o.built + n }

-- ---- a line

-- a line of no more than 4,096 bytes says this edit
abbrev pub SaysEdit : List ℕ → Edit → Type 0
SaysEdit line edit = (length line ≤ LONGEST_SCRIPT_LINE) × SaysCommand line (Change edit)

-- the edit of a line is made: the performance after it, and how many cells are built for it
abbrev pub IsLineMade : Grammar → Performance → List ℕ → Performance → ℕ → Type 0
IsLineMade g p line q n = (edit : Edit) × (cost : ℕ) × SaysEdit line edit × IsOutcome g p edit (made n cost) q

-- a line says no edit, and nothing is built; or its edit is refused, and the cells are built that it would have reached
abbrev pub IsLineRefused : Grammar → Performance → List ℕ → Option EditFault → ℕ → Type 0
IsLineRefused g p line None n = ((edit : Edit) → SaysEdit line edit → ⊥) × (n ≡ 0)
IsLineRefused g p line (Some fault) n =
    (edit : Edit) × (cells : List (ℕ × ℕ)) × SaysEdit line edit × IsRefused g p edit fault × WouldReach g p edit cells × (n ≡ length cells)

-- where memory is wanting for a line, no more cells are built than its edit would have reached
abbrev pub IsLineBrokenOff : Grammar → Performance → List ℕ → ℕ → Type 0
IsLineBrokenOff g p line n = (n ≡ 0) ⊎ ((edit : Edit) × SaysEdit line edit × ((cells : List (ℕ × ℕ)) → WouldReach g p edit cells → n ≤ length cells))

-- ---- lines

-- a line that is refused: its number, from 1; why its edit is, none where it says no edit; and how many cells were built by then
pub record Refused : Type 0 where
  pub line : ℕ
  pub fault : Option EditFault
  pub built : ℕ

-- the edits of lines are made one after another, where the first of the lines has this number: the performance after them, or the first
-- line that is refused
abbrev pub AreLinesMade : ℕ → Opened → List (List ℕ) → Result Opened Refused → Type 0
AreLinesMade number o [] r = r ≡ Ok o
AreLinesMade number o (line ∷ lines) r =
    ((fault : Option EditFault) × (n : ℕ) × IsLineRefused o.grammar o.performance line fault n × (r ≡ Err (record { line = number; fault = fault; built = o.built + n })))
    ⊎ ((q : Performance) × (n : ℕ) × IsLineMade o.grammar o.performance line q n × AreLinesMade (number + 1) (edited_to o q n) lines r)

-- how many cells may be built by the time that memory is wanting for one of the lines, or after the last of them
abbrev pub MayHaveBuilt : Opened → List (List ℕ) → ℕ → Type 0
MayHaveBuilt o [] built = built ≡ o.built
MayHaveBuilt o (line ∷ lines) built =
    ((n : ℕ) × IsLineBrokenOff o.grammar o.performance line n × (built ≡ o.built + n))
    ⊎ ((q : Performance) × (n : ℕ) × IsLineMade o.grammar o.performance line q n × MayHaveBuilt (edited_to o q n) lines built)
