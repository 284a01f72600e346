-- The edits of a script file are those of an edit script whose lines are all answered `ok`.
use Rattle.std.proofs.Common.{◌≡◌, ◌≢◌, ◌≤◌, ◌+◌, ◌++◌, ℕ, List, [], ◌∷◌, length, get_or, map, arith, inl, inr, refl, sym, subst, ◌∙◌, ap, Result, Ok, Err}
use Rattle.answer_laws.proofs.Lines.{ample_done}
use Rattle.edit_laws.specs.EditOutcomes.{EditOutcome, IsOutcome, made, refused}
use Rattle.edit_script.proofs.CommandWords.{one_command}
use Rattle.edit_script.specs.Replies.{alternatives_text, bad_line_text, bye_text, done_text, long_score_text, refused_text, score_text}
use Rattle.edit_script.specs.ScriptLines.{SaysCommand}
use Rattle.edit_script.specs.declared.command.Command.{Command}
use Rattle.edit_script.specs.declared.command.Command.TheVariants.{Alternatives, Change, Quit, Score}
use Rattle.rhythm_app.specs.Scripted.{AreLinesMade, IsLineMade, Opened, Refused, SaysEdit, edited_to}
use Rattle.rhythm_base.specs.Grammar.{Grammar}
use Rattle.rhythm_base.specs.Performance.{Performance}
use Rattle.rhythm_base.specs.declared.edit.Edit.{Edit}
use Rattle.rhythm_base.specs.declared.edit_fault.EditFault.{EditFault}
use Rattle.rhythm_base.specs.declared.edit_fault.EditFault.TheVariants.{Memory}
use Rattle.rhythm_base.specs.declared.edit_fault.EditFault.TheVariants as faults
use Rattle.rhythm_base.specs.declared.limits.TheConstants.{LONGEST_SCRIPT_LINE}
use Rattle.script_laws.specs.Script.{Answers, IsLineStep, Run, outcome_text, shown_alternative}
use Rattle.kern_writer.specs.PerformanceText.{IsWrittenScore}
use Rattle.script_run.specs.Answers.{AnswersLine, Quits}
use Rattle.outcome_laws.specs.Laws.{IsAnsweredOk, ScriptFilesAreEdits}
use Rattle.rhythm_app.proofs.ScriptedSessions.{same_opened}

-- ---- where they are made

line_answered : (g : Grammar) (p q : Performance) (line : List ℕ) (n : ℕ) → IsLineMade g p line q n → (reply : List ℕ) × IsAnsweredOk g p line reply q
line_answered g p q line n (edit, cost, says, outcome) = (done_text n cost, (says.0, (n, cost, answers, refl)))
  where
    answers : AnswersLine g p line (done_text n cost) n q
    answers = record {
      step = inl (Change edit, says.1, (made n cost, outcome, refl));
      memory = λ e. absurd (ample_done n cost e);
      built = record { edit = λ other is. inl (cost, refl); other = λ none. absurd (none edit says.1) };
    }

not_quit : (g : Grammar) (p q : Performance) (line : List ℕ) (n : ℕ) → IsLineMade g p line q n → Quits line → ⊥
not_quit g p q line n (edit, cost, says, outcome) quits = other (one_command line (Change edit) Quit says.1 quits)
  where
    other : Change edit ≢ Quit
    other e = cc

answered_from : (number : ℕ) (o last : Opened) (lines : List (List ℕ)) → AreLinesMade number o lines (Ok last)
    → (replies : List ℕ) × Run (IsAnsweredOk o.grammar) Quits o.performance lines replies last.performance
answered_from number o last [] h = ([], (refl, ap (λ (x : Opened). x.performance) (same_opened last o h)))
answered_from number o last (line ∷ lines) (inl (fault, n, why, e)) = absurd (cc)
answered_from number o last (line ∷ lines) (inr (q, n, done, h)) =
    let one = line_answered o.grammar o.performance q line n done in
    let later = answered_from (number + 1) (edited_to o q n) last lines h in
    (one.0 ++ later.0, (one.0, q, one.1, inr (not_quit o.grammar o.performance q line n done, (later.0, later.1, refl))))

-- ---- where each line is answered so

-- the first letter of a reply that is `ok`
first_letter : (built cost b : ℕ) (text : List ℕ) → done_text built cost ≡ text → get_or text 0 0 ≡ b → 111 ≡ b
first_letter built cost b text e first = ap (λ l. get_or l 0 0) e ∙ first

-- and of one that is a refusal
first_refused : (fault : EditFault) → get_or (refused_text fault) 0 0 ≡ 114
first_refused (faults.NoVoice a) = refl
first_refused (faults.NoBar a) = refl
first_refused faults.BadSpan = refl
first_refused faults.NoNote = refl
first_refused faults.SameNote = refl
first_refused (faults.PastEnd a) = refl
first_refused (faults.BarlineOrder a b) = refl
first_refused (faults.NoteOutside a) = refl
first_refused (faults.NotEmpty a) = refl
first_refused faults.OneBar = refl
first_refused (faults.Limit a b) = refl
first_refused (faults.NoDerivation a b) = refl
first_refused Memory = refl

module _ (g : Grammar) (p q : Performance) (line : List ℕ) (built cost : ℕ) where
  by_outcome : (edit : Edit) (outcome : EditOutcome) → SaysEdit line edit → IsOutcome g p edit outcome q → done_text built cost ≡ outcome_text outcome → (n : ℕ) × IsLineMade g p line q n
  by_outcome edit (made n total) says is e = (n, (edit, total, says, is))
  by_outcome edit (refused fault) says is e = let h = first_letter built cost 114 (refused_text fault) e (first_refused fault) in absurd (omega (arith, h))

  by_command : (command : Command) → length line ≤ LONGEST_SCRIPT_LINE → SaysCommand line command → Answers (IsWrittenScore g) g p command (done_text built cost) q → (n : ℕ) × IsLineMade g p line q n
  by_command (Change edit) short says (outcome, is, e) = by_outcome edit outcome (short, says) is e
  by_command Score short says (stays, inl (text, is, e)) = let h = first_letter built cost 115 (score_text text) e refl in absurd (omega (arith, h))
  by_command Score short says (stays, inr (number, is, e)) = let h = first_letter built cost 114 (long_score_text number) e refl in absurd (omega (arith, h))
  by_command (Alternatives channel bar count) short says (stays, inl (fault, is, e)) = let h = first_letter built cost 114 (refused_text fault) e (first_refused fault) in absurd (omega (arith, h))
  by_command (Alternatives channel bar count) short says (stays, inr (list, is, best, e)) =
      let h = first_letter built cost 97 (alternatives_text (map shown_alternative list)) e refl in absurd (omega (arith, h))
  by_command Quit short says (stays, e) = let h = first_letter built cost 98 bye_text e refl in absurd (omega (arith, h))

  line_done : length line ≤ LONGEST_SCRIPT_LINE → IsLineStep (IsWrittenScore g) g p line (done_text built cost) q → (n : ℕ) × IsLineMade g p line q n
  line_done short (inl (command, says, answers)) = by_command command short says answers
  line_done short (inr (inl (nothing, e, stays))) = let h = first_letter built cost 114 bad_line_text e refl in absurd (omega (arith, h))
  line_done short (inr (inr (may, e, stays))) = let h = first_letter built cost 114 (refused_text Memory) e refl in absurd (omega (arith, h))

made_of : (g : Grammar) (p q : Performance) (line reply : List ℕ) → IsAnsweredOk g p line reply q → (n : ℕ) × IsLineMade g p line q n
made_of g p q line reply (short, (built, cost, answers, e)) =
    line_done g p q line built cost short (subst (λ (r : List ℕ). IsLineStep (IsWrittenScore g) g p line r q) e answers.step)

made_from : (number : ℕ) (o : Opened) (lines : List (List ℕ)) (replies : List ℕ) (p : Performance) → Run (IsAnsweredOk o.grammar) Quits o.performance lines replies p
    → (last : Opened) × AreLinesMade number o lines (Ok last) × (last.performance ≡ p)
made_from number o [] replies p (none, same) = (o, refl, sym same)
made_from number o (line ∷ lines) replies p (reply, next, ok, inl (quits, one, same)) =
    let it = made_of o.grammar o.performance next line reply ok in absurd (not_quit o.grammar o.performance next line it.0 it.1 quits)
made_from number o (line ∷ lines) replies p (reply, next, ok, inr (goes, (more, run, joined))) =
    let it = made_of o.grammar o.performance next line reply ok in
    let later = made_from (number + 1) (edited_to o next it.0) lines more p run in
    (later.0, inr (next, it.0, it.1, later.1), later.2)

pub are_edits : ScriptFilesAreEdits
are_edits = record { answered = λ o last lines. answered_from 1 o last lines; made = λ o lines replies p. made_from 1 o lines replies p }
