-- Where a drill stands on its session, and what one edit of it does.
use Rattle.std.specs.Prelude.{◌≡◌, ◌≤◌, ℕ, ◌+◌, List, Result, IsOk, Some, length}
use Rattle.edit_laws.specs.Edits.{edited}
use Rattle.edit_session.specs.Prepared.{RisesBy}
use Rattle.edit_session.specs.Session.{Session}
use Rattle.kern_writer.specs.PerformanceText.{IsTextOf}
use Rattle.rhythm_base.specs.Counter.{risen}
use Rattle.rhythm_base.specs.declared.edit.Edit.{Edit}
use Rattle.rhythm_base.specs.declared.limits.TheConstants.{LONGEST_SCORE}
use Rattle.rhythm_gen.specs.DrillEdit.{drill_edit}
use Rattle.drill_run.specs.Drill.{Drilled, IsDrilledTo, IsDrillStep, IsWithinReach}
use Rattle.drill_run.specs.Ends.{HasDrilled, IsDrillBrokenOff, IsSummarySaid}
use Rattle.drill_run.specs.declared.drill.Drill.{Drill}
use Rattle.drill_run.specs.declared.drill.TheConstants.{DRILL_EDITS}

abbrev pub stand_of : Drill → Drilled
stand_of d = record { performance = d.session.performance; accepted = d.accepted; built = d.built }

-- the edit of this index is made or passed over, and the counter rose by the cells that it reached, and those that were built besides
abbrev pub HasStepped : Drill → ℕ → Drill → ℕ → ℕ → Type 0
HasStepped old e new start now =
    (reached besides : ℕ) × IsDrillStep old.session.grammar old.number e (stand_of old) (stand_of new) besides
    × (new.built ≡ old.built + reached) × (now ≡ risen start (reached + besides))

-- memory is wanting at the edit of this index: no more than the cells that it reaches, or would have reached, were built, and the
-- performance does not refuse it
pub record IsStepBrokenOff (d : Drill) (e n : ℕ) : Type 0 where
  pub within : (edit : Edit) → drill_edit d.number e d.session.performance ≡ Some edit → IsWithinReach d.session.grammar d.session.performance edit n
  pub allowed : (edit : Edit) → drill_edit d.number e d.session.performance ≡ Some edit → IsOk (edited d.session.performance edit)

abbrev pub HasStoppedAt : Drill → ℕ → ℕ → ℕ → Type 0
HasStoppedAt d e start now = RisesBy start now (IsStepBrokenOff d e)

-- all edits were made or passed over
abbrev pub HasDrilledAll : Drill → Drill → ℕ → ℕ → Type 0
HasDrilledAll old new start now =
    (besides : ℕ) × IsDrilledTo old.session.grammar old.number old.session.performance DRILL_EDITS (stand_of new) besides
    × (now ≡ risen start (new.built + besides))

-- memory is wanting at one of them
abbrev pub HasBrokenOff : Drill → ℕ → ℕ → Type 0
HasBrokenOff d start now = IsDrillBrokenOff d.session.grammar d.number d.session.performance start now

-- ---- a drill on a session

-- it comes to this
abbrev pub HasSaid : Session → ℕ → Result (List ℕ) ℕ → ℕ → ℕ → Type 0
HasSaid s number said start now = HasDrilled s.grammar number s.performance said start now

abbrev pub HasBrokenOffOn : Session → ℕ → ℕ → ℕ → Type 0
HasBrokenOffOn s number start now = IsDrillBrokenOff s.grammar number s.performance start now

-- ---- what is said of the session after its last edit

-- the length of its score
abbrev pub HasScoreLength : Session → ℕ → Type 0
HasScoreLength s n = (score : List ℕ) × IsTextOf s.grammar s.performance score × (length score ≤ LONGEST_SCORE) × (n ≡ length score)

-- its summary, where so many edits were accepted and so many cells built for these
abbrev pub IsSaidOf : Session → ℕ → ℕ → Result (List ℕ) ℕ → Type 0
IsSaidOf s accepted built said = IsSummarySaid s.grammar (record { performance = s.performance; accepted = accepted; built = built }) said
