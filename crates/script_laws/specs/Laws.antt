-- The laws, each as one statement over the definitions.
use Rattle.std.specs.Prelude.{◌≡◌, ◌≢◌, ℕ, List, Result}
use Rattle.edit_script.specs.declared.command.Command.{Command}
use Rattle.edit_script.specs.declared.command.Command.TheVariants.{Quit}
use Rattle.rhythm_base.specs.declared.edit_fault.EditFault.TheVariants.{Memory}
use Rattle.rhythm_base.specs.Performance.{IsWellFormed, Performance}
use Rattle.edit_script.specs.Replies.{refused_text}
use Rattle.rhythm_base.specs.Grammar.{Grammar}
use Rattle.script_laws.specs.Script.{Run, ScriptRun, IsLineStep}
use Rattle.edit_script.specs.ScriptLines.{SaysCommand}

-- a line says one command at most
abbrev pub LinesSayOneCommand : Type 0
LinesSayOneCommand = (line : List ℕ) (command other : Command) → SaysCommand line command → SaysCommand line other → command ≡ other

-- ---- What lines and scripts do, where S says what the score of a performance is: its text, or the number of the record that would
-- pass its limit. Both hold by a grammar of a unit or more where a performance has one score at most, which is shown in proofs/OneRuns,
-- and are laws where a crate says for which S they hold.

-- a well-formed performance has one score at most
abbrev pub HasOneScoreAtMost : (Performance → Result (List ℕ) ℕ → Type 0) → Type 0
HasOneScoreAtMost S = (p : Performance) (r s : Result (List ℕ) ℕ) → IsWellFormed p → S p r → S p s → r ≡ s

-- Of one well-formed performance a line has one reply, and leaves one performance, but for want of memory, which may come instead.
-- A performance that it leaves is well formed.
pub record LinesHaveOneReply (g : Grammar) (S : Performance → Result (List ℕ) ℕ → Type 0) : Type 0 where
  pub one : (p next next' : Performance) (line reply reply' : List ℕ) → IsWellFormed p → IsLineStep S g p line reply next → IsLineStep S g p line reply' next'
      → reply ≢ refused_text Memory → reply' ≢ refused_text Memory → (reply ≡ reply') × (next ≡ next')
  pub formed : (p next : Performance) (line reply : List ℕ) → IsWellFormed p → IsLineStep S g p line reply next → IsWellFormed next

-- what a line may do without want of memory
abbrev pub AmpleStep : (Performance → Result (List ℕ) ℕ → Type 0) → Grammar → Performance → List ℕ → List ℕ → Performance → Type 0
AmpleStep S g p line reply next = IsLineStep S g p line reply next × (reply ≢ refused_text Memory)

-- so a script has one run without want of memory: the same replies, and the same performance at its end, which is well formed
pub record ScriptsHaveOneRun (g : Grammar) (S : Performance → Result (List ℕ) ℕ → Type 0) : Type 0 where
  pub one : (p last last' : Performance) (lines : List (List ℕ)) (replies replies' : List ℕ) → IsWellFormed p
      → Run (AmpleStep S g) (λ line. SaysCommand line Quit) p lines replies last
      → Run (AmpleStep S g) (λ line. SaysCommand line Quit) p lines replies' last' → (replies ≡ replies') × (last ≡ last')
  pub formed : (p last : Performance) (lines : List (List ℕ)) (replies : List ℕ) → IsWellFormed p → ScriptRun S g p lines replies last
      → IsWellFormed last
