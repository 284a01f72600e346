-- What each fault of a session is answered.
use Rattle.edit_script.specs.declared.reply.Refusal.{Refusal}
use Rattle.edit_script.specs.declared.reply.Refusal.TheVariants as refusal
use Rattle.edit_session.specs.declared.ask_fault.AskFault.{AskFault}
use Rattle.edit_session.specs.declared.ask_fault.AskFault.TheVariants as ask
use Rattle.kern_writer.specs.declared.fault.ScoreFault.{ScoreFault}
use Rattle.kern_writer.specs.declared.fault.ScoreFault.TheVariants as score
use Rattle.rhythm_base.specs.declared.edit_fault.EditFault.TheVariants as fault

abbrev pub refusal_of_score : ScoreFault → Refusal
refusal_of_score (score.TooLong line) = refusal.ScoreTooLong line
refusal_of_score score.Memory = refusal.Edit fault.Memory

abbrev pub refusal_of_asking : AskFault → Refusal
refusal_of_asking (ask.NoVoice channel) = refusal.Edit (fault.NoVoice channel)
refusal_of_asking (ask.NoBar bar) = refusal.Edit (fault.NoBar bar)
refusal_of_asking ask.Memory = refusal.Edit fault.Memory
