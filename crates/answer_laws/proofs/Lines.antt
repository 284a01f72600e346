-- A line of an edit script has an answer that is no want of memory.
use Rattle.std.proofs.Common.{◌≡◌, ◌≢◌, ℕ, inl, inr, true, false, List, get_or, map, refl, sym, ap, ◌∙◌, arith, Option, Some, None, Result, Ok, Err}
use Rattle.edit_laws.specs.EditOutcomes.{EditOutcome, IsOutcome, made, refused}
use Rattle.edit_laws.specs.Edits.{cell_tests, first_refusal}
use Rattle.edit_script.specs.declared.command.Command.{Command}
use Rattle.edit_script.specs.declared.command.Command.TheVariants.{Change, Score, Alternatives, Quit}
use Rattle.edit_script.specs.declared.reply.Refusal.TheVariants as refusals
use Rattle.edit_script.specs.declared.reply.Reply.TheVariants as replies
use Rattle.edit_script.specs.Replies.{alternatives_text, bad_line_text, bye_text, done_text, long_score_text, refused_text, score_text}
use Rattle.edit_script.specs.ScriptLines.{SaysCommand, script_words}
use Rattle.edit_script.proofs.CommandWords.{edit_in_range}
use Rattle.rhythm_base.specs.declared.edit.Edit.{Edit}
use Rattle.rhythm_base.specs.declared.edit_fault.EditFault.{EditFault}
use Rattle.rhythm_base.specs.declared.edit_fault.EditFault.TheVariants.{Memory}
use Rattle.rhythm_base.specs.Forest.{Tree}
use Rattle.rhythm_base.specs.Grammar.{Grammar}
use Rattle.rhythm_base.specs.Performance.{Performance}
use Rattle.rhythm_base.specs.Readable.{IsReadable}
use Rattle.script_laws.specs.Script.{Answers, shown_alternative}
use Rattle.kern_writer.specs.PerformanceText.{IsWrittenScore}
use Rattle.script_run.specs.Answers.{AnswersLine, IsBuiltFor}
use Rattle.script_run.proofs.Replies.{change_builds, memory_reply, nothing_line, other_builds, quit_line}
use Rattle.answer_laws.specs.Editable.{IsEditable}
use Rattle.answer_laws.proofs.Alternatives.{some_best}
use Rattle.answer_laws.proofs.Commands.{says_or_not}
use Rattle.answer_laws.proofs.Outcomes.{first_ample, is_memory, refusal_ample, some_outcome}
use Rattle.answer_laws.proofs.Scores.{some_written_score}

-- ---- replies that are no want of memory

ample_fault : (fault : EditFault) → is_memory fault ≡ false → refused_text fault ≢ refused_text Memory
ample_fault fault ample e =
    let both : replies.Refused (refusals.Edit fault) ≡ replies.Refused (refusals.Edit Memory) = memory_reply (replies.Refused (refusals.Edit fault)) e in
    let same : fault ≡ Memory = cc in
    let wrong : false ≡ true = sym ample ∙ ap (λ (f : EditFault). is_memory f) same in
    cc

pub ample_done : (built cost : ℕ) → done_text built cost ≢ refused_text Memory
ample_done built cost e = let wrong : replies.Done built cost ≡ replies.Refused (refusals.Edit Memory) = memory_reply (replies.Done built cost) e in cc

pub ample_line : bad_line_text ≢ refused_text Memory
ample_line e = let wrong : replies.Refused refusals.Line ≡ replies.Refused (refusals.Edit Memory) = memory_reply (replies.Refused refusals.Line) e in cc

ample_bye : bye_text ≢ refused_text Memory
ample_bye e = let wrong : replies.Bye ≡ replies.Refused (refusals.Edit Memory) = memory_reply replies.Bye e in cc

ample_long : (number : ℕ) → long_score_text number ≢ refused_text Memory
ample_long number e =
    let wrong : replies.Refused (refusals.ScoreTooLong number) ≡ replies.Refused (refusals.Edit Memory) = memory_reply (replies.Refused (refusals.ScoreTooLong number)) e in cc

-- the first letters differ
ample_score : (text : List ℕ) → score_text text ≢ refused_text Memory
ample_score text e = let first : 115 ≡ 114 = ap (λ l. get_or l 0 0) e in absurd (omega (arith, first))

ample_list : (shown : List (ℕ × Tree)) → alternatives_text (map shown_alternative shown) ≢ refused_text Memory
ample_list shown e = let first : 97 ≡ 114 = ap (λ l. get_or l 0 0) e in absurd (omega (arith, first))

-- ---- lines

module _ (g : Grammar) (readable : IsReadable g) where
  abbrev HasAnswer : Performance → List ℕ → Type 0
  HasAnswer p line =
      (reply : List ℕ) × (n : ℕ) × (next : Performance) × AnswersLine g p line reply n next × (reply ≢ refused_text Memory) × IsEditable g next

  module _ (p : Performance) (line : List ℕ) (editable : IsEditable g p) where
    -- a command is answered, without want of memory
    answered : (command : Command) (reply : List ℕ) (n : ℕ) (next : Performance) → SaysCommand line command → Answers (IsWrittenScore g) g p command reply next
        → reply ≢ refused_text Memory → IsBuiltFor g p line reply n → IsEditable g next → HasAnswer p line
    answered command reply n next says answers ample built after =
        (reply, n, next, record { step = inl (command, says, answers); memory = λ e. absurd (ample e); built = built }, ample, after)

    edit_answer : (edit : Edit) → SaysCommand line (Change edit) → (outcome : EditOutcome) (next : Performance) → IsOutcome g p edit outcome next → IsEditable g next
        → HasAnswer p line
    edit_answer edit says (refused fault) next is after =
        answered (Change edit) (refused_text fault) 0 next says (refused fault, is, refl) (ample_fault fault (refusal_ample g p edit fault is.0))
        (change_builds g p line edit (refused_text fault) 0 says (inr ((fault, refl), λ cells would. omega arith))) after
    edit_answer edit says (made built cost) next is after =
        answered (Change edit) (done_text built cost) built next says (made built cost, is, refl) (ample_done built cost)
        (change_builds g p line edit (done_text built cost) built says (inl (cost, refl))) after

    score_answer : SaysCommand line Score → (r : Result (List ℕ) ℕ) → IsWrittenScore g p r → HasAnswer p line
    score_answer says (Ok text) is =
        answered Score (score_text text) 0 p says (refl, inl (text, is, refl)) (ample_score text) (other_builds g p line Score (score_text text) says (λ edit e. cc)) editable
    score_answer says (Err number) is =
        answered Score (long_score_text number) 0 p says (refl, inr (number, is, refl)) (ample_long number)
        (other_builds g p line Score (long_score_text number) says (λ edit e. cc)) editable

    alternatives_answer : (channel bar count : ℕ) → SaysCommand line (Alternatives channel bar count) → (o : Option EditFault)
        → first_refusal (cell_tests p channel bar) ≡ o → HasAnswer p line
    alternatives_answer channel bar count says (Some fault) is =
        answered (Alternatives channel bar count) (refused_text fault) 0 p says (refl, inl (fault, is, refl))
        (ample_fault fault (first_ample (cell_tests p channel bar) fault (refl, (refl, tt)) is))
        (other_builds g p line (Alternatives channel bar count) (refused_text fault) says (λ edit e. cc)) editable
    alternatives_answer channel bar count says None is =
        let best = some_best g p readable.ranges.some_unit channel bar count in
        let reply = alternatives_text (map shown_alternative best.0) in
        answered (Alternatives channel bar count) reply 0 p says (refl, inr (best.0, is, best.1, refl)) (ample_list best.0)
        (other_builds g p line (Alternatives channel bar count) reply says (λ edit e. cc)) editable

    command_answer : (command : Command) → SaysCommand line command → HasAnswer p line
    command_answer (Change edit) says =
        let outcome = some_outcome g p edit readable editable (edit_in_range edit (script_words line) says) in
        edit_answer edit says outcome.0 outcome.1 outcome.2 outcome.3
    command_answer Score says = let score = some_written_score g p readable editable.0 editable.1.derivations in score_answer says score.0 score.1
    command_answer (Alternatives channel bar count) says = alternatives_answer channel bar count says (first_refusal (cell_tests p channel bar)) refl
    command_answer Quit says = (bye_text, 0, p, quit_line g p line says, ample_bye, editable)

    pub some_answer : HasAnswer p line
    some_answer = elim (says_or_not line) [
      | inl said ↦ command_answer said.0 said.1
      | inr none ↦ (bad_line_text, 0, p, nothing_line g p line none, ample_line, editable)
    ]
