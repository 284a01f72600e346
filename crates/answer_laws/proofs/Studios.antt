-- A line of a studio has an answer that is no want of memory, and leaves a history that can be edited.
use Rattle.std.proofs.Common.{◌≡◌, ◌≢◌, ℕ, ◌⊎◌, inl, inr, List, [], ◌∷◌, ◌++◌, get_or, length, codes, refl, ap, subst, arith}
use Rattle.std.specs.Prelude.{All}
use Rattle.std.proofs.lemmas.Bool.{cases_eq}
use Rattle.std.proofs.lemmas.List.Elements.{All-append, All-nil}
use Rattle.edit_laws.specs.EditOutcomes.{EditOutcome, IsOutcome, made, refused}
use Rattle.edit_script.specs.declared.command.Command.{Command}
use Rattle.edit_script.specs.declared.command.Command.TheVariants.{Change, Score, Alternatives, Quit}
use Rattle.edit_script.specs.Replies.{bad_line_text, done_text, refused_text}
use Rattle.edit_script.specs.ScriptLines.{SaysCommand, SaysNothing, trimmed}
use Rattle.edit_script.proofs.CommandWords.{one_command}
use Rattle.edit_session.specs.Opening.{CanOpen}
use Rattle.rhythm_base.specs.declared.edit.Edit.{Edit}
use Rattle.rhythm_base.specs.declared.edit_fault.EditFault.TheVariants.{Memory}
use Rattle.rhythm_base.specs.Performance.{Performance}
use Rattle.rhythm_base.specs.Readable.{IsReadable}
use Rattle.rhythm_base.proofs.OrderedLists.{all_cons, all_head, all_tail}
use Rattle.script_laws.specs.Script.{Answers, IsLineStep, outcome_text}
use Rattle.kern_writer.specs.PerformanceText.{IsWrittenScore}
use Rattle.script_run.specs.Answers.{AnswersLine}
use Rattle.script_run.specs.Studio.{AnswersStudioLine}
use Rattle.session_history.specs.Changes.{IsEdited, IsRedone, IsUndone}
use Rattle.session_history.specs.History.{History, Step}
use Rattle.session_history.specs.Kept.{kept_steps}
use Rattle.session_history.specs.Studio.{StudioAnswers, TellsCost}
use Rattle.session_history.specs.StudioLines.{SaysStudio}
use Rattle.session_history.specs.StudioReplies.{no_step_text}
use Rattle.session_history.specs.declared.studio_command.StudioCommand.{StudioCommand}
use Rattle.session_history.specs.declared.studio_command.StudioCommand.TheVariants.{Plain, Redo, Undo}
use Rattle.session_history.proofs.Histories.{edited_kept, kept_rest, redone_kept, undone_kept}
use Rattle.session_history.proofs.StudioWords.{one_studio_command}
use Rattle.answer_laws.specs.Editable.{IsEditable, IsEditableHistory}
use Rattle.answer_laws.proofs.Decisions.{Decided, decided_lists}
use Rattle.answer_laws.proofs.Commands.{says_or_not}
use Rattle.answer_laws.proofs.Lines.{ample_done, ample_line, some_answer}
use Rattle.answer_laws.proofs.Reached.{some_reached}
use Rattle.table_laws.proofs.Performances.{some_cost}

ample_step : no_step_text ≢ refused_text Memory
ample_step e = let letter : 78 ≡ 77 = ap (λ l. get_or l 8 0) e in absurd (omega (arith, letter))

-- ---- lists

later_all : {X : Type 0} (P : X → Type 0) (front back : List X) → All P (front ++ back) → All P back
later_all P [] back all = all
later_all P (x ∷ front) back all = later_all P front back (all_tail P x (front ++ back) all)

first_all : {X : Type 0} (P : X → Type 0) (front back : List X) → All P (front ++ back) → All P front
first_all P [] back all = All-nil P
first_all P (x ∷ front) back all = all_cons P x front (all_head P x (front ++ back) all) (first_all P front back (all_tail P x (front ++ back) all))

-- a list has no element, or a last one
none_or_last : {X : Type 0} (xs : List X) → (xs ≡ []) ⊎ ((front : List X) × (x : X) × (xs ≡ front ++ x ∷ []))
none_or_last [] = inl refl
none_or_last (x ∷ xs) = go (none_or_last xs)
  where
    go : (xs ≡ []) ⊎ ((front : List _) × (y : _) × (xs ≡ front ++ y ∷ [])) → (x ∷ xs ≡ []) ⊎ ((front : List _) × (y : _) × (x ∷ xs ≡ front ++ y ∷ []))
    go (inl none) = inr ([], x, ap (λ l. x ∷ l) none)
    go (inr (front, y, is)) = inr (x ∷ front, y, ap (λ l. x ∷ l) is)

module _ (h : History) (readable : IsReadable h.grammar) (editable : IsEditableHistory h) (line : List ℕ) where
  abbrev HasStudioAnswer : Type 0
  HasStudioAnswer =
      (reply : List ℕ) × (n : ℕ) × (next : History) × AnswersStudioLine h line reply n next × (reply ≢ refused_text Memory)
      × (IsReadable next.grammar × IsEditableHistory next)

  abbrev OpensAt : Step → Type 0
  OpensAt step = CanOpen h.grammar step.performance

  -- ---- commands of an edit script

  -- a line that says a command does what the command does
  line_does : (command : Command) (reply : List ℕ) (next : Performance) → SaysCommand line command → reply ≢ refused_text Memory
      → IsLineStep (IsWrittenScore h.grammar) h.grammar h.present line reply next → Answers (IsWrittenScore h.grammar) h.grammar h.present command reply next
  line_does command reply next says ample (inl (other, says', answers)) =
      subst (λ (c : Command). Answers (IsWrittenScore h.grammar) h.grammar h.present c reply next) (one_command line other command says' says) answers
  line_does command reply next says ample (inr (inl (none, text, stays))) = absurd (none command says)
  line_does command reply next says ample (inr (inr (may, text, stays))) = absurd (ample text)

  abbrev step_back : Performance → Step
  step_back next = record { performance = h.present; size = length (some_reached h.grammar next h.present).0 }

  -- the history after an edit that makes the performance the present
  abbrev edited_to : Performance → History
  edited_to next = record { grammar = h.grammar; past = kept_steps (h.past ++ step_back next ∷ []); present = next; future = [] }

  is_edited : (next : Performance) → IsEdited h next (edited_to next)
  is_edited next = let cells = some_reached h.grammar next h.present in (step_back next, (cells.0, cells.1, refl), refl)

  edited_editable : (next : Performance) → IsEditable h.grammar next → IsEditableHistory (edited_to next)
  edited_editable next after =
      let steps : List Step = h.past ++ step_back next ∷ [] in
      let kept = kept_rest steps in
      let all : All OpensAt steps = All-append OpensAt h.past (step_back next ∷ []) editable.past (all_cons OpensAt (step_back next) [] editable.present (All-nil OpensAt)) in
      record {
        history = edited_kept h (edited_to next) next editable.history after.0 (is_edited next);
        past = later_all OpensAt kept.0 (kept_steps steps) (subst (All OpensAt) kept.1 all);
        present = after.1;
        future = All-nil (CanOpen h.grammar);
      }

  module _ (reply : List ℕ) (n : ℕ) (after : Performance) (answers : AnswersLine h.grammar h.present line reply n after) (ample : reply ≢ refused_text Memory)
      (ready : IsEditable h.grammar after) where
    -- the line says a command of an edit script
    in_studio : (command : Command) (next : History) → SaysCommand line command → StudioAnswers (IsWrittenScore h.grammar) h (Plain command) reply next
        → IsReadable next.grammar × IsEditableHistory next → HasStudioAnswer
    in_studio command next says does kept =
        (reply, n, next, record { step = inl (Plain command, says, does); memory = answers.memory; built = answers.built }, ample, kept)

    edit_in_studio : (edit : Edit) → SaysCommand line (Change edit) → (outcome : EditOutcome) → IsOutcome h.grammar h.present edit outcome after
        → reply ≡ outcome_text outcome → HasStudioAnswer
    edit_in_studio edit says (refused fault) is text = in_studio (Change edit) h says (refused fault, (is.0, refl), refl, text) (readable, editable)
    edit_in_studio edit says (made built cost) is text =
        in_studio (Change edit) (edited_to after) says (made built cost, is, is_edited after, text) (readable, edited_editable after ready)

    stays_in_studio : (command : Command) → SaysCommand line command → Answers (IsWrittenScore h.grammar) h.grammar h.present command reply after → HasStudioAnswer
    stays_in_studio (Change edit) says does = edit_in_studio edit says does.0 does.1 does.2
    stays_in_studio Score says does =
        in_studio Score h says (subst (λ q. Answers (IsWrittenScore h.grammar) h.grammar h.present Score reply q) does.0 does, refl) (readable, editable)
    stays_in_studio (Alternatives channel bar count) says does =
        in_studio (Alternatives channel bar count) h says
        (subst (λ q. Answers (IsWrittenScore h.grammar) h.grammar h.present (Alternatives channel bar count) reply q) does.0 does, refl) (readable, editable)
    stays_in_studio Quit says does =
        in_studio Quit h says (subst (λ q. Answers (IsWrittenScore h.grammar) h.grammar h.present Quit reply q) does.0 does, refl) (readable, editable)

  plain_answer : (command : Command) → SaysCommand line command → HasStudioAnswer
  plain_answer command says =
      let a = some_answer h.grammar readable h.present line (editable.history.present, editable.present) in
      stays_in_studio a.0 a.1 a.2 a.3 a.4 a.5 command says (line_does command a.0 a.2 says a.4 a.3.step)

  -- ---- undo and redo

  step_answer : (command : StudioCommand) (reply : List ℕ) (next : History) → SaysStudio line command → ((other : Command) → command ≢ Plain other)
      → StudioAnswers (IsWrittenScore h.grammar) h command reply next → reply ≢ refused_text Memory → IsReadable next.grammar × IsEditableHistory next → HasStudioAnswer
  step_answer command reply next says apart does ample kept = (
    reply,
    0,
    next,
    record {
      step = inl (command, says, does);
      memory = λ e. absurd (ample e);
      built = record {
        edit = λ edit is. absurd (apart (Change edit) (one_studio_command line command (Plain (Change edit)) says is));
        other = λ _. refl;
      };
    },
    ample,
    kept,
  )

  -- the cost of the present is told
  told : (next : History) → IsReadable next.grammar → IsEditableHistory next → (cost : ℕ) × TellsCost next (done_text 0 cost)
  told next reads kept = let cost = some_cost next.grammar next.present reads kept.history.present kept.present.starts next.present.channels kept.present.derivations in (cost.0, (cost.0, cost.1, refl))

  undo_answer : trimmed line ≡ codes "undo" → (h.past ≡ []) ⊎ ((before : List Step) × (step : Step) × (h.past ≡ before ++ step ∷ [])) → HasStudioAnswer
  undo_answer says (inl none) = step_answer Undo no_step_text h says (λ other e. cc) (inr (none, refl, refl)) ample_step (readable, editable)
  undo_answer says (inr (before, step, is)) =
      let next : History = record { grammar = h.grammar; past = before; present = step.performance; future = h.present ∷ h.future } in
      let undone : IsUndone h next = (before, step, is, refl) in
      let all : All OpensAt (before ++ step ∷ []) = subst (All OpensAt) is editable.past in
      let kept : IsEditableHistory next = record {
        history = undone_kept h next editable.history undone;
        past = first_all OpensAt before (step ∷ []) all;
        present = all_head OpensAt step [] (later_all OpensAt before (step ∷ []) all);
        future = all_cons (CanOpen h.grammar) h.present h.future editable.present editable.future;
      } in
      let cost = told next readable kept in
      step_answer Undo (done_text 0 cost.0) next says (λ other e. cc) (inl (undone, cost.1)) (ample_done 0 cost.0) (readable, kept)

  redo_answer : trimmed line ≡ codes "redo" → (future : List Performance) → h.future ≡ future → HasStudioAnswer
  redo_answer says [] none = step_answer Redo no_step_text h says (λ other e. cc) (inr (none, refl, refl)) ample_step (readable, editable)
  redo_answer says (q ∷ later) is =
      let cells = some_reached h.grammar q h.present in
      let next : History = record { grammar = h.grammar; past = h.past ++ step_back q ∷ []; present = q; future = later } in
      let redone : IsRedone h next = (q, later, step_back q, is, (cells.0, cells.1, refl), refl) in
      let all : All (CanOpen h.grammar) (q ∷ later) = subst (All (CanOpen h.grammar)) is editable.future in
      let kept : IsEditableHistory next = record {
        history = redone_kept h next editable.history redone;
        past = All-append OpensAt h.past (step_back q ∷ []) editable.past (all_cons OpensAt (step_back q) [] editable.present (All-nil OpensAt));
        present = all_head (CanOpen h.grammar) q later all;
        future = all_tail (CanOpen h.grammar) q later all;
      } in
      let cost = told next readable kept in
      step_answer Redo (done_text 0 cost.0) next says (λ other e. cc) (inl (redone, cost.1)) (ample_done 0 cost.0) (readable, kept)

  -- ---- lines

  bad_answer : SaysNothing line → (trimmed line ≡ codes "undo" → ⊥) → (trimmed line ≡ codes "redo" → ⊥) → HasStudioAnswer
  bad_answer none no_undo no_redo = (
    bad_line_text,
    0,
    h,
    record {
      step = inr (inl (says_no_studio, refl, refl));
      memory = λ e. absurd (ample_line e);
      built = record { edit = λ edit is. absurd (none (Change edit) is); other = λ _. refl };
    },
    ample_line,
    (readable, editable),
  )
    where
      says_no_studio : (command : StudioCommand) → SaysStudio line command → ⊥
      says_no_studio (Plain command) says = none command says
      says_no_studio Undo says = no_undo says
      says_no_studio Redo says = no_redo says

  pub some_studio_answer : HasStudioAnswer
  some_studio_answer = go (says_or_not line) (decided_lists cases_eq (trimmed line) (codes "undo")) (decided_lists cases_eq (trimmed line) (codes "redo"))
    where
      go : ((command : Command) × SaysCommand line command) ⊎ SaysNothing line → Decided (trimmed line ≡ codes "undo") → Decided (trimmed line ≡ codes "redo")
          → HasStudioAnswer
      go (inl (command, says)) undo redo = plain_answer command says
      go (inr none) (inl undo) redo = undo_answer undo (none_or_last h.past)
      go (inr none) (inr no_undo) (inl redo) = redo_answer redo h.future refl
      go (inr none) (inr no_undo) (inr no_redo) = bad_answer none no_undo no_redo
