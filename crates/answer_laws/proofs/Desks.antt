-- A line has an answer on a desk that is no want of memory, and a script has replies to its lines.
use Rattle.std.proofs.Common.{◌≢◌, ℕ, ◌+◌, inl, inr, List, [], ◌∷◌, ◌++◌, refl}
use Rattle.edit_script.specs.Replies.{refused_text}
use Rattle.rhythm_base.specs.declared.edit_fault.EditFault.TheVariants.{Memory}
use Rattle.edit_session.specs.Opening.{CanOpen}
use Rattle.rhythm_base.specs.Grammar.{Grammar}
use Rattle.rhythm_base.specs.Performance.{IsWellFormed, Performance}
use Rattle.rhythm_base.specs.Readable.{IsReadable}
use Rattle.std.specs.Prelude.{All}
use Rattle.std.proofs.lemmas.List.Elements.{All-nil}
use Rattle.session_history.specs.History.{Step, begun_with}
use Rattle.script_laws.specs.Script.{Run}
use Rattle.script_run.specs.Answers.{Quits}
use Rattle.script_run.specs.Desk.{AnswersOn, Desk, editor, studio}
use Rattle.script_run.specs.Editing.{Editing}
use Rattle.script_run.specs.Laws.{IsAmpleAnswer}
use Rattle.answer_laws.specs.Editable.{IsEditable, IsOpen}
use Rattle.answer_laws.proofs.Commands.{quits_or_not}
use Rattle.answer_laws.proofs.Lines.{some_answer}
use Rattle.answer_laws.proofs.Studios.{some_studio_answer}

pub begins_open : (g : Grammar) (p : Performance) → IsReadable g → IsEditable g p → IsOpen (editor g p) × IsOpen (studio (begun_with g p))
begins_open g p readable editable =
    let none : All (λ (step : Step). IsWellFormed step.performance) [] = All-nil (λ (step : Step). IsWellFormed step.performance) in (
      (readable, editable),
      (
        readable,
        record {
          history = record { past = none; present = editable.0; future = All-nil IsWellFormed; steps = tt };
          past = All-nil (λ (step : Step). CanOpen g step.performance);
          present = editable.1;
          future = All-nil (CanOpen g);
        },
      ),
    )

pub desk_answer : (desk : Desk) (line : List ℕ) → IsOpen desk
    → (reply : List ℕ) × (n : ℕ) × (next : Desk) × AnswersOn desk line reply n next × (reply ≢ refused_text Memory) × IsOpen next
desk_answer (editor g p) line (readable, editable) =
    let a = some_answer g readable p line editable in (a.0, a.1, editor g a.2, (a.2, a.3, refl), a.4, (readable, a.5))
desk_answer (studio h) line (readable, editable) =
    let a = some_studio_answer h readable editable line in (a.0, a.1, studio a.2, (a.2, a.3, refl), a.4, a.5)

-- the reply to a line, and what is edited after it
pub some_step : (s : Editing) (line : List ℕ) → IsOpen s.desk → (reply : List ℕ) × (next : Editing) × IsAmpleAnswer s line reply next × IsOpen next.desk
some_step s line ready =
    let a = desk_answer s.desk line ready in (a.0, record { desk = a.2; built = s.built + a.1 }, ((a.1, a.3, refl), a.4), a.5)

pub some_end : (lines : List (List ℕ)) (s : Editing) → IsOpen s.desk → (replies : List ℕ) × (last : Editing) × Run IsAmpleAnswer Quits s lines replies last
some_end [] s ready = ([], s, (refl, refl))
some_end (line ∷ lines) s ready =
    let a = some_step s line ready in
    elim (quits_or_not line) [
      | inl quits ↦ (a.0, a.1, (a.0, a.1, a.2, inl (quits, refl, refl)))
      | inr goes ↦ let rest = some_end lines a.1 a.3 in (a.0 ++ rest.0, rest.1, (a.0, a.1, a.2, inr (goes, (rest.0, rest.2, refl))))
    ]
