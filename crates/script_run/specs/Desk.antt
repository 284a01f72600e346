-- What answers the lines of a script, and what a line may do there.
use Rattle.std.specs.Prelude.{◌≡◌, ℕ, List, All}
use Rattle.rhythm_base.specs.Grammar.{Grammar}
use Rattle.rhythm_base.specs.Performance.{IsWellFormed, Performance}
use Rattle.rhythm_base.specs.Readable.{IsReadable}
use Rattle.session_history.specs.Changes.{IsHistory}
use Rattle.session_history.specs.History.{History}
use Rattle.script_run.specs.Answers.{AnswersLine}
use Rattle.script_run.specs.Studio.{AnswersStudioLine}
use Rattle.script_run.specs.declared.desk.Desk.{Desk as Code}
use Rattle.script_run.specs.declared.desk.Desk.TheVariants as code

-- an editor with its grammar and its performance, or a studio with its history
pub data Desk : Type 0 where
  editor : Grammar → Performance → Desk
  studio : History → Desk

-- a desk as contracts see it
abbrev pub shown : Code → Desk
shown (code.Editor session) = editor session.grammar session.performance
shown (code.Studio history) = studio history

-- what a line may do: its reply, how many cells are built for it, and the desk after it
abbrev pub AnswersOn : Desk → List ℕ → List ℕ → ℕ → Desk → Type 0
AnswersOn (editor g p) line reply n new = (q : Performance) × AnswersLine g p line reply n q × (new ≡ editor g q)
AnswersOn (studio h) line reply n new = (k : History) × AnswersStudioLine h line reply n k × (new ≡ studio k)

-- the grammar is readable, and what is edited is well formed
abbrev pub IsSound : Desk → Type 0
IsSound (editor g p) = IsReadable g × IsWellFormed p
IsSound (studio h) = IsReadable h.grammar × IsHistory h
