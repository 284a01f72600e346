-- How the answering of a script may end.
use Rattle.std.specs.Prelude.{ℕ, List, Option}
use Rattle.script_run.specs.Answers.{Quits}
use Rattle.script_run.specs.Desk.{Desk}
use Rattle.script_run.specs.Editing.{Editing, IsLineAnswer, begun_on}
use Rattle.script_run.specs.Machine.{IsAnswered, IsStoppedBy}
use Rattle.script_run.specs.declared.script_stop.ScriptStop.{ScriptStop}

-- the script is answered to its end, or to a line that says `quit`
abbrev pub IsDone : Desk → Option (List ℕ) → Option (List ℕ) → Option (List ℕ) → Option (List ℕ) → Editing → Type 0
IsDone desk rest rest' taken taken' last = IsAnswered IsLineAnswer Quits (begun_on desk) rest rest' taken taken' last

-- the answering of the script stopped, and how far it came
abbrev pub IsScriptStopped : ScriptStop → Desk → Option (List ℕ) → Option (List ℕ) → Option (List ℕ) → Option (List ℕ) → Editing → Type 0
IsScriptStopped end desk rest rest' taken taken' last = IsStoppedBy IsLineAnswer Quits (begun_on desk) end rest rest' taken taken' last
