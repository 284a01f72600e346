-- The laws, each as one statement over the definitions.
use Rattle.rhythm_base.specs.declared.limits.TheConstants.{MOST_CELLS}
use Rattle.std.specs.Prelude.{◌≡◌, ◌≢◌, ℕ, ◌≤◌, List, [], ◌∷◌, ◌++◌, Result}
use Rattle.edit_session.specs.Opening.{cells_of}
use Rattle.rhythm_base.specs.Performance.{IsWellFormed, Performance}
use Rattle.rhythm_base.specs.Readable.{IsReadable}
use Rattle.edit_script.specs.Replies.{refused_text}
use Rattle.rhythm_base.specs.declared.edit_fault.EditFault.TheVariants.{Memory}
use Rattle.session_history.specs.Changes.{IsEdited, IsHistory, IsRedone, IsUndone}
use Rattle.session_history.specs.History.{History, Step}
use Rattle.session_history.specs.Studio.{StudioStep}
use Rattle.session_history.specs.StudioLines.{SaysStudio}
use Rattle.session_history.specs.declared.studio_command.StudioCommand.{StudioCommand}

-- after an edit to a performance, an undo or a redo there is one history
pub record ChangesAreOne : Type 0 where
  pub edited : (h new new' : History) (next : Performance) → IsEdited h next new → IsEdited h next new' → new ≡ new'
  pub undone : (h new new' : History) → IsUndone h new → IsUndone h new' → new ≡ new'
  pub redone : (h new new' : History) → IsRedone h new → IsRedone h new' → new ≡ new'

-- and it is as edits, undo and redo leave histories, where it was so before
pub record ChangesKeepHistories : Type 0 where
  pub edited : (h new : History) (next : Performance) → IsHistory h → IsWellFormed next → IsEdited h next new → IsHistory new
  pub undone : (h new : History) → IsHistory h → IsUndone h new → IsHistory new
  pub redone : (h new : History) → IsHistory h → IsRedone h new → IsHistory new

-- An undo takes the last edit back: the present is that before the edit, the past is what it was but for first steps that the edit cut off,
-- and the edit alone can be redone
pub record IsTakenBack (h : History) (next : Performance) (back : History) : Type 0 where
  pub grammar : back.grammar ≡ h.grammar
  pub present : back.present ≡ h.present
  pub past : (cut : List Step) × (h.past ≡ cut ++ back.past)
  pub future : back.future ≡ next ∷ []

abbrev pub UndoTakesAnEditBack : Type 0
UndoTakesAnEditBack = (h after back : History) (next : Performance) → IsEdited h next after → IsUndone after back → IsTakenBack h next back

-- a redo takes the last undo back: the whole history is as it was
abbrev pub RedoTakesAnUndoBack : Type 0
RedoTakesAnUndoBack = (h back again : History) → IsHistory h → IsUndone h back → IsRedone back again → again ≡ h

-- The last edit can be taken back: of a performance within the limit of cells its step is kept
abbrev pub TheLastStepIsKept : Type 0
TheLastStepIsKept =
    (h after : History) (next : Performance) → cells_of h.present ≤ MOST_CELLS → IsEdited h next after
    → (before : List Step) × (step : Step) × (after.past ≡ before ++ step ∷ []) × (step.performance ≡ h.present)

-- a line says one command at most
abbrev pub StudioLinesSayOneCommand : Type 0
StudioLinesSayOneCommand =
    (line : List ℕ) (command other : StudioCommand) → SaysStudio line command → SaysStudio line other → command ≡ other

-- Of one history a line has one reply, and leaves one history, but for want of memory, which may come instead. Where S says what the
-- score of a performance is, and a performance has one at most, it holds by every readable grammar: proofs/OneStudioAnswers shows it
-- for a crate that says what a score is.
pub record StudioLinesHaveOneAnswer (S : Performance → Result (List ℕ) ℕ → Type 0) : Type 0 where
  pub one : (h next next' : History) (line reply reply' : List ℕ) → IsReadable h.grammar → IsHistory h
      → StudioStep S h line reply next → StudioStep S h line reply' next' → reply ≢ refused_text Memory → reply' ≢ refused_text Memory
      → (reply ≡ reply') × (next ≡ next')
  pub kept : (h next : History) (line reply : List ℕ) → IsHistory h → StudioStep S h line reply next
      → IsHistory next × (next.grammar ≡ h.grammar)
