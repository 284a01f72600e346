-- The laws, each as one statement over the definitions.
use Rattle.std.specs.Prelude.{◌≡◌, ◌≢◌, ◌⊎◌, ◌++◌, ℕ, List, Option, Some, Result, Ok, Err}
use Rattle.script_laws.specs.Laws.{LinesHaveOneReply as HasOneAnswers, ScriptsHaveOneRun}
use Rattle.rhythm_base.specs.Grammar.{Grammar}
use Rattle.rhythm_base.specs.Readable.{IsReadable}
use Rattle.edit_script.specs.Replies.{refused_text}
use Rattle.rhythm_base.specs.declared.edit_fault.EditFault.TheVariants.{Memory}
use Rattle.kern_writer.specs.PerformanceText.{IsWrittenScore}
use Rattle.script_run.specs.Answers.{Quits}
use Rattle.script_run.specs.Desk.{AnswersOn, Desk, IsSound}
use Rattle.script_run.specs.Editing.{Editing, IsLineAnswer, begun_on}
use Rattle.script_run.specs.Machine.{IsAnswered, IsStoppedBy}
use Rattle.script_run.specs.declared.script_stop.ScriptStop.{ScriptStop}
use Rattle.script_run.specs.declared.script_stop.ScriptStop.TheVariants as stop

-- by a readable grammar a line has one answer, but for want of memory, and a script one run
abbrev pub LinesHaveOneAnswer : Type 0
LinesHaveOneAnswer = (g : Grammar) → IsReadable g → HasOneAnswers g (IsWrittenScore g) × ScriptsHaveOneRun g (IsWrittenScore g)

-- a line has one reply on a desk, and leaves one desk, but for want of memory; and it leaves what is edited well formed
pub record DesksHaveOneAnswer : Type 0 where
  pub one : (desk next next' : Desk) (line reply reply' : List ℕ) (n n' : ℕ) → IsSound desk → AnswersOn desk line reply n next → AnswersOn desk line reply' n' next'
      → reply ≢ refused_text Memory → reply' ≢ refused_text Memory → (reply ≡ reply') × (next ≡ next')
  pub sound : (desk next : Desk) (line reply : List ℕ) (n : ℕ) → IsSound desk → AnswersOn desk line reply n next → IsSound next

-- what a line may do without want of memory
abbrev pub IsAmpleAnswer : Editing → List ℕ → List ℕ → Editing → Type 0
IsAmpleAnswer old line reply new = IsLineAnswer old line reply new × (reply ≢ refused_text Memory)

-- the bytes of a script decide its end: no read and no write fails, and there is memory for a line
abbrev pub IsByBytes : Result (Unit {0}) ScriptStop → Type 0
IsByBytes result = (result ≢ Err stop.Read) × (result ≢ Err stop.Write) × (result ≢ Err stop.Memory)

-- the answering of a script ends so, and no reply to a line is want of memory
abbrev pub EndsAmply : Result (Unit {0}) ScriptStop → Desk → Option (List ℕ) → Option (List ℕ) → Option (List ℕ) → Option (List ℕ) → Editing → Type 0
EndsAmply (Ok done) desk rest rest' taken taken' last = IsAnswered IsAmpleAnswer Quits (begun_on desk) rest rest' taken taken' last
EndsAmply (Err end) desk rest rest' taken taken' last = IsStoppedBy IsAmpleAnswer Quits (begun_on desk) end rest rest' taken taken' last

-- one text begins with the other
abbrev pub BeginsWith : List ℕ → List ℕ → Type 0
BeginsWith text front = (more : List ℕ) × (text ≡ front ++ more)

-- Of two ways to answer the same script on the same desk: where the bytes decide both ends, they are one, and out took the same and
-- the desk is the same; and however both end, what out took in one of them begins as in the other
pub record ScriptsHaveOneOutput : Type 0 where
  pub one : (desk : Desk) (script written : List ℕ) (end end' : Result (Unit {0}) ScriptStop) (rest rest' out out' : Option (List ℕ)) (last last' : Editing)
      → IsSound desk → IsByBytes end → IsByBytes end' → EndsAmply end desk (Some script) rest (Some written) out last
      → EndsAmply end' desk (Some script) rest' (Some written) out' last' → (end ≡ end') × (out ≡ out') × (last.desk ≡ last'.desk)
  pub beginning : (desk : Desk) (script written out out' : List ℕ) (end end' : Result (Unit {0}) ScriptStop) (rest rest' : Option (List ℕ)) (last last' : Editing)
      → IsSound desk → EndsAmply end desk (Some script) rest (Some written) (Some out) last
      → EndsAmply end' desk (Some script) rest' (Some written) (Some out') last' → BeginsWith out out' ⊎ BeginsWith out' out
