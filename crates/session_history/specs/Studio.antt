-- What a studio does: which reply each line may have, and the history after it. S says what the score of a performance is: its text, or the
-- number of the record that would pass its limit.
use Rattle.std.specs.Prelude.{◌≡◌, ℕ, ◌⊎◌, List, [], Result}
use Rattle.rhythm_base.specs.Performance.{Performance}
use Rattle.edit_script.specs.Replies.{bad_line_text, done_text, refused_text}
use Rattle.script_laws.specs.Script.{Answers, MayWantMemory, outcome_text}
use Rattle.edit_laws.specs.EditOutcomes.{EditOutcome, IsOutcome, made, refused}
use Rattle.rhythm_base.specs.Voices.{IsCostOf}
use Rattle.edit_script.specs.declared.command.Command.TheVariants.{Alternatives, Change, Quit, Score}
use Rattle.rhythm_base.specs.declared.edit_fault.EditFault.TheVariants.{Memory}
use Rattle.session_history.specs.Changes.{IsEdited, IsRedone, IsUndone}
use Rattle.session_history.specs.History.{History}
use Rattle.session_history.specs.StudioLines.{SaysNoStudio, SaysStudio}
use Rattle.session_history.specs.StudioReplies.{no_step_text}
use Rattle.session_history.specs.declared.studio_command.StudioCommand.{StudioCommand}
use Rattle.session_history.specs.declared.studio_command.StudioCommand.TheVariants.{Plain, Redo, Undo}

-- the history after an edit of the present: a refused one leaves it as it was
abbrev pub IsAfterEdit : History → EditOutcome → History → Type 0
IsAfterEdit h (refused fault) next = next ≡ h
IsAfterEdit h (made built cost) next = IsEdited h next.present next

-- the reply to a step back or forward: it builds no cell, and the cost of the present is told
abbrev pub TellsCost : History → List ℕ → Type 0
TellsCost next reply = (cost : ℕ) × IsCostOf next.grammar next.present cost × (reply ≡ done_text 0 cost)

-- the replies that a command may have and the history after it. Want of memory is another matter
abbrev pub StudioAnswers : (Performance → Result (List ℕ) ℕ → Type 0) → History → StudioCommand → List ℕ → History → Type 0
StudioAnswers S h (Plain (Change edit)) reply next =
    (outcome : EditOutcome) × IsOutcome h.grammar h.present edit outcome next.present × IsAfterEdit h outcome next
    × (reply ≡ outcome_text outcome)
StudioAnswers S h (Plain Score) reply next = Answers S h.grammar h.present Score reply next.present × (next ≡ h)
StudioAnswers S h (Plain (Alternatives channel bar count)) reply next =
    Answers S h.grammar h.present (Alternatives channel bar count) reply next.present × (next ≡ h)
StudioAnswers S h (Plain Quit) reply next = Answers S h.grammar h.present Quit reply next.present × (next ≡ h)
StudioAnswers S h Undo reply next = (IsUndone h next × TellsCost next reply) ⊎ ((h.past ≡ []) × (reply ≡ no_step_text) × (next ≡ h))
StudioAnswers S h Redo reply next = (IsRedone h next × TellsCost next reply) ⊎ ((h.future ≡ []) × (reply ≡ no_step_text) × (next ≡ h))

-- what a line may do: what its command does; where it says no command, a reply that says so; or want of memory, the only
-- free answer, which no `undo` and no `redo` has
abbrev pub StudioStep : (Performance → Result (List ℕ) ℕ → Type 0) → History → List ℕ → List ℕ → History → Type 0
StudioStep S h line reply next =
    ((command : StudioCommand) × SaysStudio line command × StudioAnswers S h command reply next)
    ⊎ (SaysNoStudio line × (reply ≡ bad_line_text) × (next ≡ h))
    ⊎ (MayWantMemory line × (reply ≡ refused_text Memory) × (next ≡ h))
