-- What a session, a history and a desk reply to a line, and how many cells are built for it.
use Rattle.std.specs.Prelude.{◌≡◌, ◌⊎◌, ℕ, List, map, MatchResult, Result}
use Rattle.edit_script.specs.Replies.{alternatives_text}
use Rattle.edit_script.specs.ReplyText.{reply_text}
use Rattle.edit_script.specs.declared.command.Command.{Command}
use Rattle.edit_script.specs.declared.command.Command.TheVariants.{Change}
use Rattle.edit_script.specs.declared.reply.Refusal.{Refusal}
use Rattle.edit_script.specs.declared.reply.Refusal.TheVariants as refusals
use Rattle.edit_script.specs.declared.reply.Reply.{Reply}
use Rattle.edit_script.specs.declared.reply.Reply.TheVariants as replies
use Rattle.edit_session.specs.Session.{Session}
use Rattle.edit_session.specs.declared.committed.Applied.{Applied}
use Rattle.rhythm_base.specs.Counter.{risen}
use Rattle.rhythm_base.specs.Forest.{Tree}
use Rattle.rhythm_base.specs.declared.edit.Edit.{Edit}
use Rattle.rhythm_base.specs.declared.edit_fault.EditFault.{EditFault}
use Rattle.rhythm_base.specs.declared.edit_fault.EditFault.TheVariants.{Memory}
use Rattle.script_laws.specs.Script.{shown_alternative}
use Rattle.session_history.specs.History.{History}
use Rattle.session_history.specs.StudioReplies.{studio_reply_text}
use Rattle.session_history.specs.declared.history.NoStep.{NoStep}
use Rattle.session_history.specs.declared.studio_command.StudioCommand.TheVariants as studio_command
use Rattle.session_history.specs.declared.studio_reply.StudioReply.{StudioReply}
use Rattle.session_history.specs.declared.studio_reply.StudioReply.TheVariants as studio
use Rattle.script_run.specs.Answers.{AnswersLine, IsBuiltForEdit}
use Rattle.script_run.specs.Desk.{AnswersOn, shown}
use Rattle.script_run.specs.Hearing.{MayAnswer}
use Rattle.script_run.specs.Studio.{AnswersStudioLine, MayAnswerInStudio}
use Rattle.script_run.specs.declared.desk.Desk.{Desk}

-- so many cells are built, of which P tells
abbrev pub Built : ℕ → ℕ → (ℕ → Type 0) → Type 0
Built before now P = (n : ℕ) × P n × (now ≡ risen before n)

-- the reply for want of memory
abbrev pub no_memory : Reply
no_memory = replies.Refused (refusals.Edit Memory)

-- the reply says the fault, as the refusals of such faults are said
abbrev pub Refuses : {E : Type 0} → (E → Refusal) → Reply → E → Type 0
Refuses refusal_of reply fault = reply ≡ replies.Refused (refusal_of fault)

-- the reply to an edit, and to a step back or on, by what became of it
abbrev pub IsEditReply : Result Applied EditFault → Reply → Type 0
IsEditReply outcome reply = MatchResult outcome (λ a. reply ≡ replies.Done a.built a.cost) (λ fault. reply ≡ replies.Refused (refusals.Edit fault))

abbrev pub IsStepReply : Result Applied NoStep → StudioReply → Type 0
IsStepReply outcome reply = MatchResult outcome (λ a. reply ≡ studio.Plain (replies.Done a.built a.cost)) (λ _. reply ≡ studio.NoStep)

-- the reply shows all alternatives of the list, or there was not enough memory
abbrev pub ShowsAll : List (ℕ × Tree) → Reply → Type 0
ShowsAll list reply = (reply_text reply ≡ alternatives_text (map shown_alternative list)) ⊎ (reply ≡ no_memory)

-- ---- of a session

abbrev pub MayReply : Session → Command → Reply → Session → Type 0
MayReply old command reply new = MayAnswer old.grammar old.performance command (reply_text reply) new.performance

abbrev pub IsBuiltByEdit : Session → Edit → Reply → ℕ → Type 0
IsBuiltByEdit old edit reply n = IsBuiltForEdit old.grammar old.performance edit (reply_text reply) n

abbrev pub RepliesToLine : Session → List ℕ → Reply → Session → ℕ → Type 0
RepliesToLine old line reply new n = AnswersLine old.grammar old.performance line (reply_text reply) n new.performance

-- ---- of a studio

abbrev pub MayReplyToEdit : History → Edit → Reply → History → Type 0
MayReplyToEdit old edit reply new = MayAnswerInStudio old (studio_command.Plain (Change edit)) (reply_text reply) new

abbrev pub IsBuiltByStep : History → Edit → Reply → ℕ → Type 0
IsBuiltByStep old edit reply n = IsBuiltForEdit old.grammar old.present edit (reply_text reply) n

abbrev pub RepliesInStudio : History → List ℕ → StudioReply → History → ℕ → Type 0
RepliesInStudio old line reply new n = AnswersStudioLine old line (studio_reply_text reply) n new

-- ---- of a desk

abbrev pub RepliesOn : Desk → List ℕ → StudioReply → Desk → ℕ → Type 0
RepliesOn old line reply new n = AnswersOn (shown old) line (studio_reply_text reply) n (shown new)
