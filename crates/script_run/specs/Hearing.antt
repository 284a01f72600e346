-- A script heard byte by byte: a newline answers the line that was begun, and another byte joins it.
use Rattle.std.specs.Prelude.{◌≡◌, ◌≢◌, ◌↔◌, ℕ, ◌+◌, ◌<◌, ◌⊎◌, Bool, IsTrue, List, [], ◌∷◌, ◌++◌, length, take, Option}
use Rattle.std.specs.Io.KnownBytes.{Appends}
use Rattle.rhythm_base.specs.Counter.{risen}
use Rattle.rhythm_base.specs.Grammar.{Grammar}
use Rattle.rhythm_base.specs.Performance.{Performance}
use Rattle.edit_script.specs.Replies.{refused_text}
use Rattle.script_laws.specs.Script.{Answers}
use Rattle.edit_script.specs.declared.command.Command.{Command}
use Rattle.rhythm_base.specs.declared.edit_fault.EditFault.TheVariants.{Memory}
use Rattle.rhythm_base.specs.declared.limits.TheConstants.{LONGEST_SCRIPT, LONGEST_SCRIPT_LINE}
use Rattle.kern_writer.specs.PerformanceText.{IsWrittenScore}
use Rattle.script_run.specs.Answers.{Quits}
use Rattle.script_run.specs.Desk.{AnswersOn, Desk}
use Rattle.script_run.specs.declared.script_stop.ScriptStop.{ScriptStop}
use Rattle.script_run.specs.declared.script_stop.ScriptStop.TheVariants as stop

-- a command is answered, or there was not enough memory
abbrev pub MayAnswer : Grammar → Performance → Command → List ℕ → Performance → Type 0
MayAnswer g p command reply next = Answers (IsWrittenScore g) g p command reply next ⊎ ((reply ≡ refused_text Memory) × (next ≡ p))

-- the desk, the line that was begun, and how many bytes were read
pub record Heard : Type 0 where
  pub desk : Desk
  pub begun : List ℕ
  pub read : ℕ

-- a line is answered, and so many cells are built for it
abbrev pub Replies : Heard → List ℕ → ℕ → Desk → Type 0
Replies old reply n next = AnswersOn old.desk old.begun reply n next

-- a byte joins the line that was begun
abbrev pub joined : Heard → ℕ → Heard
joined heard byte = record heard { begun = heard.begun ++ byte ∷ []; read = heard.read + 1 }

-- the line that was begun is as long as a line may be, or a byte can join it
abbrev pub IsLongLine : Heard → Type 0
IsLongLine heard = length heard.begun ≡ LONGEST_SCRIPT_LINE

abbrev pub IsShortLine : Heard → Type 0
IsShortLine heard = length heard.begun < LONGEST_SCRIPT_LINE

-- a byte can join the line that was begun, and the script may have one more
abbrev pub CanJoin : Heard → Type 0
CanJoin heard = IsShortLine heard × (heard.read < LONGEST_SCRIPT)

-- out took the reply to the line that was begun, and so many cells are built; and whether that line ends the script
abbrev pub Whole : {O : Type 0} → (O → Option (List ℕ)) → O → O → ℕ → ℕ → Heard → Desk → Bool → Type 0
Whole taken out out' built built' old next ends =
    (IsTrue ends ↔ Quits old.begun)
    × ((reply : List ℕ) × (n : ℕ) × Replies old reply n next × Appends (taken out) (taken out') reply × (built' ≡ risen built n))

-- out took a first part of that reply, and not all
abbrev pub Part : {O : Type 0} → (O → Option (List ℕ)) → O → O → ℕ → ℕ → Heard → Desk → Type 0
Part taken out out' built built' old next =
    (reply : List ℕ) × (n sent : ℕ) × Replies old reply n next × (sent < length reply) × Appends (taken out) (taken out') (take sent reply) × (built' ≡ risen built n)

-- a byte is heard, and no line that says `quit` ends there
abbrev pub Hears : Heard → ℕ → List ℕ → ℕ → Heard → Type 0
Hears old byte reply n new =
    (old.read < LONGEST_SCRIPT) × (new.read ≡ old.read + 1)
    × (((byte ≡ 10) × Replies old reply n new.desk × (Quits old.begun → ⊥) × (new.begun ≡ []))
    ⊎ ((byte ≢ 10) × (reply ≡ []) × (n ≡ 0) × (new.desk ≡ old.desk) × (length old.begun < LONGEST_SCRIPT_LINE) × (new.begun ≡ old.begun ++ byte ∷ [])))

-- at the end of the script the line that was begun is answered, where it is not empty
abbrev pub Closes : Heard → List ℕ → ℕ → Desk → Type 0
Closes old reply n next = ((old.begun ≡ []) × (reply ≡ []) × (n ≡ 0) × (next ≡ old.desk)) ⊎ ((old.begun ≢ []) × Replies old reply n next × (Quits old.begun ⊎ (Quits old.begun → ⊥)))

-- bytes are heard one after another: all replies, and how many cells are built
abbrev pub HearsAll : Heard → List ℕ → List ℕ → ℕ → Heard → Type 0
HearsAll old [] replies n new = (replies ≡ []) × (n ≡ 0) × (new ≡ old)
HearsAll old (byte ∷ bytes) replies n new =
    (mid : Heard) × (reply more : List ℕ) × (k m : ℕ) × (replies ≡ reply ++ more) × (n ≡ k + m) × Hears old byte reply k mid × HearsAll mid bytes more m new

-- of the bytes some are heard, up to a byte of which Q tells what happens there, by what was heard before it
pub record HearsUpTo (old : Heard) (bytes : List ℕ) (taken taken' : Option (List ℕ)) (n : ℕ) (Q : Heard → ℕ → List ℕ → ℕ → Type 0) : Type 0 where
  pub front : List ℕ
  pub byte : ℕ
  pub back : List ℕ
  pub are : bytes ≡ front ++ byte ∷ back
  pub mid : Heard
  pub before : List ℕ
  pub k : ℕ
  pub heard : HearsAll old front before k mid
  pub after : List ℕ
  pub m : ℕ
  pub sum : n ≡ k + m
  pub at : Q mid byte after m
  pub written : Appends taken taken' (before ++ after)

-- out took the text, and so many cells were built
abbrev pub Took : Option (List ℕ) → Option (List ℕ) → ℕ → ℕ → List ℕ → ℕ → Type 0
Took taken taken' built built' text n = Appends taken taken' text × (built' ≡ risen built n)

-- there the line that was begun is answered whole, and it says `quit`
abbrev pub QuitsThere : Desk → Heard → ℕ → List ℕ → ℕ → Type 0
QuitsThere next mid byte after m = (byte ≡ 10) × (mid.read < LONGEST_SCRIPT) × Quits mid.begun × Replies mid after m next

-- there a first part of the reply is written, and not all
abbrev pub IsCutThere : Desk → Heard → ℕ → List ℕ → ℕ → Type 0
IsCutThere next mid byte after m =
    (byte ≡ 10) × (mid.read < LONGEST_SCRIPT) × ((reply : List ℕ) × (sent : ℕ) × Replies mid reply m next × (sent < length reply) × (after ≡ take sent reply))

-- there the script is too long
abbrev pub IsTooLongThere : Desk → Heard → ℕ → List ℕ → ℕ → Type 0
IsTooLongThere next mid byte after m = (mid.read ≡ LONGEST_SCRIPT) × (after ≡ []) × (m ≡ 0) × (next ≡ mid.desk)

-- there the line is too long
abbrev pub IsLineTooLongThere : Desk → Heard → ℕ → List ℕ → ℕ → Type 0
IsLineTooLongThere next mid byte after m =
    (mid.read < LONGEST_SCRIPT) × (byte ≢ 10) × (length mid.begun ≡ LONGEST_SCRIPT_LINE) × (after ≡ []) × (m ≡ 0) × (next ≡ mid.desk)

-- what happens there by why the answering stops
abbrev pub StopsThere : ScriptStop → Desk → Heard → ℕ → List ℕ → ℕ → Type 0
StopsThere stop.Read next mid byte after m = ⊥
StopsThere (stop.TooLong read) next mid byte after m = (read ≡ LONGEST_SCRIPT + 1) × IsTooLongThere next mid byte after m
StopsThere (stop.LineTooLong read) next mid byte after m = (read ≡ LONGEST_SCRIPT_LINE + 1) × IsLineTooLongThere next mid byte after m
StopsThere stop.Write next mid byte after m = IsCutThere next mid byte after m
StopsThere stop.Memory next mid byte after m = ⊥
