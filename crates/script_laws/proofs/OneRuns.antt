-- Where a performance has one score at most, a line has one answer and a script one run.
use Rattle.std.proofs.Common.{ℕ, ◌≤◌, List, Result}
use Rattle.rhythm_base.specs.Grammar.{Grammar}
use Rattle.rhythm_base.specs.Performance.{IsWellFormed, Performance}
use Rattle.script_laws.specs.Script.{IsLineStep}
use Rattle.edit_script.specs.ScriptLines.{SaysCommand}
use Rattle.edit_script.specs.declared.command.Command.TheVariants.{Quit}
use Rattle.script_laws.specs.Laws.{AmpleStep, HasOneScoreAtMost, LinesHaveOneReply, ScriptsHaveOneRun}
use Rattle.script_laws.proofs.Lines.{one_step, step_formed}
use Rattle.script_laws.proofs.OneAnswers.{answers_are_one}
use Rattle.script_laws.proofs.Runs.{one_run, run_keeps}

module _ (g : Grammar) (S : Performance → Result (List ℕ) ℕ → Type 0) (some : 1 ≤ g.resolution) (score : HasOneScoreAtMost S) where
  pub one_answer : LinesHaveOneReply g S
  one_answer = record {
    one = λ p next next' line reply reply' formed. one_step g S p (answers_are_one g some) score formed line reply reply' next next';
    formed = λ p next line reply formed. step_formed g S p formed line reply next;
  }

  pub one_run_of_script : ScriptsHaveOneRun g S
  one_run_of_script = record {
    one = λ p last last' lines replies replies' formed. one_run (AmpleStep S g) (λ line. SaysCommand line Quit) IsWellFormed
        (λ p next line reply formed step. step_formed g S p formed line reply next step.0)
        (λ p next next' line reply reply' formed step step'. one_step g S p (answers_are_one g some) score formed line reply reply' next next' step.0 step'.0 step.1 step'.1)
        p last last' lines replies replies' formed;
    formed = λ p last lines replies formed. run_keeps (IsLineStep S g) (λ line. SaysCommand line Quit) IsWellFormed
        (λ p next line reply formed step. step_formed g S p formed line reply next step)
        p last lines replies formed;
  }
