-- The laws, each as one statement over the definitions.
use Rattle.rhythm_base.specs.declared.limits.TheConstants.{MOST_NOTES, MOST_CELLS}
use Rattle.std.specs.Prelude.{◌≡◌, ◌*◌, ◌≤◌, length, Ok, ℕ, List}
use Rattle.rhythm_base.specs.declared.edit.Edit.{Edit}
use Rattle.rhythm_base.specs.EditRanges.{IsEditInRange}
use Rattle.edit_laws.specs.Edits.{edited}
use Rattle.rhythm_base.specs.Performance.{IsWellFormed, Performance}
use Rattle.rhythm_base.specs.Grammar.{Grammar}
use Rattle.rhythm_base.specs.Voices.{HasStarts}
use Rattle.edit_laws.specs.Reached.{AreReached}

-- an edit that is not refused leaves a well-formed performance with the same voices, within the limits of notes and of cells,
-- and with a root symbol for each bar, where it was so before
pub record EditsKeepPerformances : Type 0 where
  pub formed : (p q : Performance) (edit : Edit) → IsWellFormed p → IsEditInRange edit → edited p edit ≡ Ok q → IsWellFormed q
  pub voices : (p q : Performance) (edit : Edit) → edited p edit ≡ Ok q → q.channels ≡ p.channels
  pub notes : (p q : Performance) (edit : Edit) → edited p edit ≡ Ok q → length p.notes ≤ MOST_NOTES → length q.notes ≤ MOST_NOTES
  pub cells : (p q : Performance) (edit : Edit) → edited p edit ≡ Ok q → length p.channels * length p.bars ≤ MOST_CELLS
      → length q.channels * length q.bars ≤ MOST_CELLS
  pub starts : (g : Grammar) (p q : Performance) (edit : Edit) → edited p edit ≡ Ok q → HasStarts g p.bars → HasStarts g q.bars

-- the cells that a change of a performance reaches are one list
abbrev pub ReachedCellsAreOne : Type 0
ReachedCellsAreOne =
    (g : Grammar) (before after : Performance) (xs ys : List (ℕ × ℕ)) → AreReached g before after xs → AreReached g before after ys → xs ≡ ys
