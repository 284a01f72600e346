-- The laws, each as one statement over the definitions.
use Rattle.std.specs.Prelude.{◌≡◌, ℕ, List, Result, Ok, Err}
use Rattle.barline_fit.specs.Fitted.{IsAcceptedAt}
use Rattle.edit_script.specs.Replies.{long_score_text, score_text}
use Rattle.edit_script.specs.declared.command.Command.TheVariants.{Change, Score}
use Rattle.rhythm_app.specs.Commands.{HasOutcome}
use Rattle.kern_writer.specs.PerformanceText.{IsWrittenScore}
use Rattle.rhythm_app.specs.FittedScore.{IsFittedScore}
use Rattle.rhythm_app.specs.Outcome.{Ready}
use Rattle.rhythm_app.specs.declared.stop.Stop.{Stop}
use Rattle.rhythm_base.specs.Grammar.{Grammar}
use Rattle.rhythm_base.specs.Performance.{IsWellFormed, Performance}
use Rattle.rhythm_base.specs.Readable.{IsReadable}
use Rattle.rhythm_base.specs.declared.edit.Edit.TheVariants.{Barline}
use Rattle.rhythm_ports.specs.Files.{File}
use Rattle.script_laws.specs.Script.{Answers}

-- words and files come to one text, to one grammar and performance, or to one stop
abbrev pub OutcomesAreOne : Type 0
OutcomesAreOne = (words : List (List ℕ)) (files : List File) (r s : Result Ready Stop) → HasOutcome words files r → HasOutcome words files s → r ≡ s

-- the reply to a line that asks for the score
abbrev pub score_reply : Result (List ℕ) ℕ → List ℕ
score_reply (Ok text) = score_text text
score_reply (Err line) = long_score_text line

-- A performance has one score with its barline at an accepted tick. It is that of the same edit in a script: the reply to a line that
-- asks for the score after a line that sets the barline to the tick.
pub record FittedScoresAreOne : Type 0 where
  pub one : (g : Grammar) (p : Performance) (bar tick : ℕ) (a b : Result (List ℕ) ℕ) → IsReadable g → IsWellFormed p
      → IsFittedScore g p bar tick a → IsFittedScore g p bar tick b → a ≡ b
  pub as_edited : (g : Grammar) (p next last : Performance) (bar tick cost : ℕ) (score : Result (List ℕ) ℕ) (reply said : List ℕ) → IsReadable g → IsWellFormed p
      → IsAcceptedAt g p bar tick cost → IsFittedScore g p bar tick score → Answers (IsWrittenScore g) g p (Change (Barline bar tick)) reply next
      → Answers (IsWrittenScore g) g next Score said last → said ≡ score_reply score
