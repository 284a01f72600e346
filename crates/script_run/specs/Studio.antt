-- What a line of a studio may do.
use Rattle.std.specs.Prelude.{◌≡◌, ◌⊎◌, ℕ, List}
use Rattle.edit_script.specs.Replies.{refused_text}
use Rattle.rhythm_base.specs.declared.edit_fault.EditFault.TheVariants.{Memory}
use Rattle.session_history.specs.History.{History}
use Rattle.session_history.specs.Studio.{StudioAnswers, StudioStep}
use Rattle.session_history.specs.declared.studio_command.StudioCommand.{StudioCommand}
use Rattle.kern_writer.specs.PerformanceText.{IsWrittenScore}
use Rattle.script_run.specs.Answers.{IsBuiltFor, MayLackMemory}

-- its reply, the history after it, and how many cells are built for it: an undo and a redo build none, and take no memory
pub record AnswersStudioLine (h : History) (line reply : List ℕ) (n : ℕ) (next : History) : Type 0 where
  pub step : StudioStep (IsWrittenScore h.grammar) h line reply next
  pub memory : reply ≡ refused_text Memory → MayLackMemory h.present line
  pub built : IsBuiltFor h.grammar h.present line reply n

-- a command is answered, or there was not enough memory
abbrev pub MayAnswerInStudio : History → StudioCommand → List ℕ → History → Type 0
MayAnswerInStudio h command reply next = StudioAnswers (IsWrittenScore h.grammar) h command reply next ⊎ ((reply ≡ refused_text Memory) × (next ≡ h))
