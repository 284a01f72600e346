-- How a drill ends.
use Rattle.std.specs.Prelude.{◌≡◌, ℕ, ◌+◌, ◌<◌, ◌≤◌, IsOk, List, Result, Ok, Err, Some}
use Rattle.kern_writer.specs.PerformanceText.{HasTooLongText}
use Rattle.kern_writer.specs.declared.fault.ScoreFault.{ScoreFault}
use Rattle.kern_writer.specs.declared.fault.ScoreFault.TheVariants as fault
use Rattle.edit_laws.specs.Edits.{edited}
use Rattle.rhythm_base.specs.Counter.{risen}
use Rattle.rhythm_base.specs.Grammar.{Grammar}
use Rattle.rhythm_base.specs.Performance.{Performance}
use Rattle.rhythm_base.specs.declared.edit.Edit.{Edit}
use Rattle.rhythm_gen.specs.DrillEdit.{drill_edit}
use Rattle.drill_run.specs.Drill.{Drilled, IsDrilledTo, IsWithinReach}
use Rattle.drill_run.specs.Summary.{IsSummary}
use Rattle.drill_run.specs.declared.drill.TheConstants.{DRILL_EDITS}
use Rattle.drill_run.specs.declared.drill_stop.DrillStop.{DrillStop}
use Rattle.drill_run.specs.declared.drill_stop.DrillStop.TheVariants as stop

-- a score that is not written, as what stops a drill
abbrev pub score_stop : ScoreFault → DrillStop
score_stop (fault.TooLong line) = stop.ScoreTooLong line
score_stop fault.Memory = stop.Memory

-- where a score is too long, the number of the record that would pass its limit has this
abbrev pub OnTooLong : {X : Type 0} → Result X DrillStop → (ℕ → Type 0) → Type 0
OnTooLong result P = (line : ℕ) → result ≡ Err (stop.ScoreTooLong line) → P line

-- what is said after the last edit: the summary; or, where the score is too long, the number of the record that would pass its limit
abbrev pub IsSummarySaid : Grammar → Drilled → Result (List ℕ) ℕ → Type 0
IsSummarySaid g last (Ok text) = IsSummary g last text
IsSummarySaid g last (Err line) = HasTooLongText g last.performance line

-- the drill of a number on a performance comes to this
abbrev pub IsDrillOf : Grammar → ℕ → Performance → Result (List ℕ) ℕ → Type 0
IsDrillOf g number p said = (last : Drilled) × (besides : ℕ) × IsDrilledTo g number p DRILL_EDITS last besides × IsSummarySaid g last said

-- It comes to this, and the counter of builds rose by the cells that the accepted edits reached, and those that were built besides
abbrev pub HasDrilled : Grammar → ℕ → Performance → Result (List ℕ) ℕ → ℕ → ℕ → Type 0
HasDrilled g number p said built built' =
    (last : Drilled) × (besides : ℕ) × IsDrilledTo g number p DRILL_EDITS last besides × IsSummarySaid g last said × (built' ≡ risen built (last.built + besides))

-- The drill came to so many of its edits, and then there was not enough memory. The edit after them is one that the performance does
-- not refuse, and for it at most the cells that it reaches, or would have reached, were built; after the last edit there is none.
pub record IsDrillBrokenOff (g : Grammar) (number : ℕ) (p : Performance) (built built' : ℕ) : Type 0 where
  pub edits : ℕ
  pub few : edits ≤ DRILL_EDITS
  pub last : Drilled
  pub besides : ℕ
  pub drilled : IsDrilledTo g number p edits last besides
  pub allowed : (edit : Edit) → edits < DRILL_EDITS → drill_edit number edits last.performance ≡ Some edit → IsOk (edited last.performance edit)
  pub more : ℕ
  pub next : (edit : Edit) → drill_edit number edits last.performance ≡ Some edit → IsWithinReach g last.performance edit more
  pub none : edits ≡ DRILL_EDITS → more ≡ 0
  pub rises : built' ≡ risen built (last.built + besides + more)
