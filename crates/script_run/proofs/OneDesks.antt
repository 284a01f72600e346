-- A line has one answer on a desk, and a script one run.
use Rattle.std.proofs.Common.{◌≡◌, ◌≢◌, ℕ, inl, inr, List, [], ◌∷◌, refl, sym, ap, ◌∙◌, subst}
use Rattle.script_laws.proofs.OneRuns.{one_answer}
use Rattle.script_laws.proofs.Runs.{one_run}
use Rattle.rhythm_base.specs.Readable.{IsReadable}
use Rattle.edit_script.specs.Replies.{refused_text}
use Rattle.script_laws.specs.Script.{Run}
use Rattle.rhythm_base.specs.declared.edit_fault.EditFault.TheVariants.{Memory}
use Rattle.session_history.proofs.OneStudioAnswers.{one_studio_answer}
use Rattle.kern_writer.specs.PerformanceText.{IsWrittenScore}
use Rattle.script_run.specs.Answers.{Quits}
use Rattle.script_run.specs.Desk.{AnswersOn, Desk, IsSound, editor, studio}
use Rattle.script_run.specs.Editing.{Editing}
use Rattle.script_run.specs.Laws.{IsAmpleAnswer}
use Rattle.script_run.proofs.OneScores.{one_score}

pub one_desk : (desk next next' : Desk) (line reply reply' : List ℕ) (n n' : ℕ) → IsSound desk → AnswersOn desk line reply n next → AnswersOn desk line reply' n' next'
    → reply ≢ refused_text Memory → reply' ≢ refused_text Memory → (reply ≡ reply') × (next ≡ next')
one_desk (editor g p) next next' line reply reply' n n' (readable, formed) (q, answer, is) (q', answer', is') some some' =
    let same = (one_answer g (IsWrittenScore g) readable.ranges.some_unit (one_score g readable)).one p q q' line reply reply' formed answer.step answer'.step some some' in
    (same.0, is ∙ ap (λ x. editor g x) same.1 ∙ sym is')
one_desk (studio h) next next' line reply reply' n n' (readable, history) (k, answer, is) (k', answer', is') some some' =
    let same = (one_studio_answer (IsWrittenScore h.grammar) (one_score h.grammar readable)).one h k k' line reply reply' readable history answer.step answer'.step some some' in
    (same.0, is ∙ ap (λ x. studio x) same.1 ∙ sym is')

pub desk_sound : (desk next : Desk) (line reply : List ℕ) (n : ℕ) → IsSound desk → AnswersOn desk line reply n next → IsSound next
desk_sound (editor g p) next line reply n (readable, formed) (q, answer, is) =
    subst IsSound (sym is) (readable, (one_answer g (IsWrittenScore g) readable.ranges.some_unit (one_score g readable)).formed p q line reply formed answer.step)
desk_sound (studio h) next line reply n (readable, history) (k, answer, is) =
    let kept = (one_studio_answer (IsWrittenScore h.grammar) (one_score h.grammar readable)).kept h k line reply history answer.step in
    subst IsSound (sym is) (subst IsReadable (sym kept.1) readable, kept.0)

-- what a line may do to a desk without want of memory, whatever is built for it
abbrev AmpleOn : Desk → List ℕ → List ℕ → Desk → Type 0
AmpleOn desk line reply next = ((n : ℕ) × AnswersOn desk line reply n next) × (reply ≢ refused_text Memory)

abbrev pub AmpleRun : Desk → List (List ℕ) → List ℕ → Desk → Type 0
AmpleRun desk lines replies last = Run AmpleOn Quits desk lines replies last

-- what the replies do to the desk alone
pub on_desks : (s last : Editing) (lines : List (List ℕ)) (replies : List ℕ) → Run IsAmpleAnswer Quits s lines replies last → AmpleRun s.desk lines replies last.desk
on_desks s last [] replies (quiet, stays) = (quiet, ap (λ (e : Editing). e.desk) stays)
on_desks s last (line ∷ lines) replies (reply, next, ((n, answer, count), some), inl (ends, all, stays)) =
    (reply, next.desk, ((n, answer), some), inl (ends, all, ap (λ (e : Editing). e.desk) stays))
on_desks s last (line ∷ lines) replies (reply, next, ((n, answer, count), some), inr (goes, (more, run, all))) =
    (reply, next.desk, ((n, answer), some), inr (goes, (more, on_desks next last lines more run, all)))

pub one_desk_run : (desk last last' : Desk) (lines : List (List ℕ)) (replies replies' : List ℕ) → IsSound desk → AmpleRun desk lines replies last
    → AmpleRun desk lines replies' last' → (replies ≡ replies') × (last ≡ last')
one_desk_run desk last last' lines replies replies' sound =
    one_run AmpleOn Quits IsSound
    (λ s next line reply good step. desk_sound s next line reply step.0.0 good step.0.1)
    (λ s next next' line reply reply' good step step'. one_desk s next next' line reply reply' step.0.0 step'.0.0 good step.0.1 step'.0.1 step.1 step'.1)
    desk last last' lines replies replies' sound
