-- Where a performance has one score at most, a line of a studio has one answer.
use Rattle.std.proofs.Common.{◌≡◌, ℕ, inl, inr, List, [], ◌∷◌, ◌++◌, get_or, refl, sym, ap, subst, ◌∙◌, arith, Result}
use Rattle.std.specs.Prelude.{◌≢◌, codes}
use Rattle.script_laws.specs.Laws.{HasOneScoreAtMost}
use Rattle.script_laws.proofs.Lines.{one_step, step_formed}
use Rattle.script_laws.proofs.OneAnswers.{answers_are_one}
use Rattle.rhythm_base.specs.Performance.{IsWellFormed, Performance}
use Rattle.rhythm_base.specs.Readable.{IsReadable}
use Rattle.edit_script.specs.Replies.{done_text, fault_words, refused_text, reply_line}
use Rattle.edit_laws.specs.EditOutcomes.{EditOutcome, made, refused}
use Rattle.script_laws.specs.Script.{IsLineStep, outcome_text}
use Rattle.edit_script.specs.ScriptLines.{SaysCommand}
use Rattle.edit_script.specs.declared.command.Command.{Command}
use Rattle.edit_script.specs.declared.command.Command.TheVariants.{Alternatives, Change, Quit, Score}
use Rattle.rhythm_base.specs.declared.edit_fault.EditFault.{EditFault}
use Rattle.rhythm_base.specs.declared.edit_fault.EditFault.TheVariants.{Memory}
use Rattle.performance_laws.proofs.OneVoices.{one_cost_of}
use Rattle.session_history.specs.Changes.{IsEdited, IsHistory}
use Rattle.session_history.specs.History.{History}
use Rattle.session_history.specs.Laws.{StudioLinesHaveOneAnswer}
use Rattle.session_history.specs.Studio.{IsAfterEdit, StudioAnswers, StudioStep, TellsCost}
use Rattle.session_history.specs.StudioLines.{SaysStudio}
use Rattle.session_history.specs.declared.studio_command.StudioCommand.{StudioCommand}
use Rattle.session_history.specs.declared.studio_command.StudioCommand.TheVariants.{Plain, Redo, Undo}
use Rattle.session_history.proofs.Histories.{edited_kept, edited_one, redone_kept, redone_one, undone_kept, undone_one}
use Rattle.session_history.proofs.StudioWords.{one_studio_command}

-- ---- a reply to an edit that was made is none to one that was refused

first_letter : (letter : ℕ) (letters : List ℕ) (words : List (List ℕ)) → get_or (reply_line ((letter ∷ letters) ∷ words)) 0 0 ≡ letter
first_letter letter letters [] = refl
first_letter letter letters (word ∷ words) = refl

made_is_not_refused : (built cost : ℕ) (fault : EditFault) → done_text built cost ≡ refused_text fault → ⊥
made_is_not_refused built cost fault same =
    let letters : 111 ≡ 114 = ap (λ t. get_or t 0 0) same ∙ first_letter 114 (codes "efused") (fault_words fault) in absurd (omega (arith, letters))

no_last : {X : Type 0} (xs : List X) (x : X) → xs ++ x ∷ [] ≡ [] → ⊥
no_last [] x none = absurd (cc)
no_last (y ∷ ys) x none = absurd (cc)

-- ---- a history is one still

module _ (S : Performance → Result (List ℕ) ℕ → Type 0) (h : History) (is : IsHistory h) where
  -- where a line says a command of an edit script, it does what that command does to the present
  plain_step : (line reply : List ℕ) (command : Command) (next : History) → SaysCommand line command → StudioAnswers S h (Plain command) reply next
      → IsLineStep S h.grammar h.present line reply next.present
  plain_step line reply (Change edit) next says (outcome, becomes, after, text) = inl (Change edit, says, (outcome, becomes, text))
  plain_step line reply Score next says (answer, stays) = inl (Score, says, answer)
  plain_step line reply (Alternatives channel bar count) next says (answer, stays) = inl (Alternatives channel bar count, says, answer)
  plain_step line reply Quit next says (answer, stays) = inl (Quit, says, answer)

  abbrev StaysOne : History → Type 0
  StaysOne next = IsHistory next × (next.grammar ≡ h.grammar)

  unchanged : (next : History) → next ≡ h → StaysOne next
  unchanged next stays = (subst IsHistory (sym stays) is, ap (λ (x : History). x.grammar) stays)

  after_edit : (outcome : EditOutcome) (next : History) → IsWellFormed next.present → IsAfterEdit h outcome next → StaysOne next
  after_edit (refused fault) next formed after = unchanged next after
  after_edit (made built cost) next formed after = (edited_kept h next next.present is formed after, ap (λ (x : History). x.grammar) after.2)

  answer_kept : (line reply : List ℕ) (command : StudioCommand) (next : History) → SaysStudio line command → StudioAnswers S h command reply next → StaysOne next
  answer_kept line reply (Plain (Change edit)) next says answer =
      after_edit answer.0 next
      (step_formed h.grammar S h.present is.present line reply next.present (plain_step line reply (Change edit) next says answer)) answer.2
  answer_kept line reply (Plain Score) next says (answer, stays) = unchanged next stays
  answer_kept line reply (Plain (Alternatives channel bar count)) next says (answer, stays) = unchanged next stays
  answer_kept line reply (Plain Quit) next says (answer, stays) = unchanged next stays
  answer_kept line reply Undo next says (inl (undone, told)) = (undone_kept h next is undone, ap (λ (x : History). x.grammar) undone.3)
  answer_kept line reply Undo next says (inr (none, text, stays)) = unchanged next stays
  answer_kept line reply Redo next says (inl (redone, told)) = (redone_kept h next is redone, ap (λ (x : History). x.grammar) redone.5)
  answer_kept line reply Redo next says (inr (none, text, stays)) = unchanged next stays

  pub studio_step_kept : (line reply : List ℕ) (next : History) → StudioStep S h line reply next → StaysOne next
  studio_step_kept line reply next (inl (command, says, answer)) = answer_kept line reply command next says answer
  studio_step_kept line reply next (inr (inl (nothing, text, stays))) = unchanged next stays
  studio_step_kept line reply next (inr (inr (may, text, stays))) = unchanged next stays

-- ---- a line has one answer

module _ (S : Performance → Result (List ℕ) ℕ → Type 0) (score : HasOneScoreAtMost S) (h : History) (readable : IsReadable h.grammar) (is : IsHistory h) where
  abbrev AreAlike : List ℕ → List ℕ → History → History → Type 0
  AreAlike reply reply' next next' = (reply ≡ reply') × (next ≡ next')

  one_plain : (line reply reply' : List ℕ) (next next' : History) (command : Command) → SaysCommand line command → StudioAnswers S h (Plain command) reply next
      → StudioAnswers S h (Plain command) reply' next' → reply ≢ refused_text Memory → reply' ≢ refused_text Memory
      → (reply ≡ reply') × (next.present ≡ next'.present)
  one_plain line reply reply' next next' command says answer answer' some some' =
      one_step h.grammar S h.present (answers_are_one h.grammar readable.ranges.some_unit) score is.present line reply reply' next.present next'.present
      (plain_step S h is line reply command next says answer) (plain_step S h is line reply' command next' says answer') some some'

  one_after : (o o' : EditOutcome) (next next' : History) → outcome_text o ≡ outcome_text o' → next.present ≡ next'.present → IsAfterEdit h o next → IsAfterEdit h o' next'
      → next ≡ next'
  one_after (refused fault) (refused fault') next next' text present stays stays' = stays ∙ sym stays'
  one_after (refused fault) (made built cost) next next' text present after after' = absurd (made_is_not_refused built cost fault (sym text))
  one_after (made built cost) (refused fault) next next' text present after after' = absurd (made_is_not_refused built cost fault text)
  one_after (made built cost) (made built' cost') next next' text present after after' =
      edited_one h next next' next.present after (subst (λ p. IsEdited h p next') (sym present) after')

  one_told : (reply reply' : List ℕ) (next next' : History) → next ≡ next' → TellsCost next reply → TellsCost next' reply' → AreAlike reply reply' next next'
  one_told reply reply' next next' same (cost, costs, text) told' =
      let (cost', costs', text') = subst (λ (x : History). TellsCost x reply') (sym same) told' in
      (text ∙ ap (done_text 0) (one_cost_of next.grammar next.present cost cost' costs costs') ∙ sym text', same)

  one_answer : (line reply reply' : List ℕ) (next next' : History) (command : StudioCommand) → SaysStudio line command → StudioAnswers S h command reply next
      → StudioAnswers S h command reply' next' → reply ≢ refused_text Memory → reply' ≢ refused_text Memory → AreAlike reply reply' next next'
  one_answer line reply reply' next next' (Plain (Change edit)) says answer answer' some some' =
      let one = one_plain line reply reply' next next' (Change edit) says answer answer' some some' in
      (one.0, one_after answer.0 answer'.0 next next' (sym answer.3 ∙ one.0 ∙ answer'.3) one.1 answer.2 answer'.2)
  one_answer line reply reply' next next' (Plain Score) says answer answer' some some' =
      ((one_plain line reply reply' next next' Score says answer answer' some some').0, answer.1 ∙ sym answer'.1)
  one_answer line reply reply' next next' (Plain (Alternatives channel bar count)) says answer answer' some some' =
      ((one_plain line reply reply' next next' (Alternatives channel bar count) says answer answer' some some').0, answer.1 ∙ sym answer'.1)
  one_answer line reply reply' next next' (Plain Quit) says answer answer' some some' =
      ((one_plain line reply reply' next next' Quit says answer answer' some some').0, answer.1 ∙ sym answer'.1)
  one_answer line reply reply' next next' Undo says (inl (undone, told)) (inl (undone', told')) some some' =
      one_told reply reply' next next' (undone_one h next next' undone undone') told told'
  one_answer line reply reply' next next' Undo says (inl ((before, s, past, at), told)) (inr (none, text', stays')) some some' =
      absurd (no_last before s (sym past ∙ none))
  one_answer line reply reply' next next' Undo says (inr (none, text, stays)) (inl ((before, s, past, at), told)) some some' =
      absurd (no_last before s (sym past ∙ none))
  one_answer line reply reply' next next' Undo says (inr (none, text, stays)) (inr (none', text', stays')) some some' = (text ∙ sym text', stays ∙ sym stays')
  one_answer line reply reply' next next' Redo says (inl (redone, told)) (inl (redone', told')) some some' =
      one_told reply reply' next next' (redone_one h next next' redone redone') told told'
  one_answer line reply reply' next next' Redo says (inl ((q, qs, s, future, step, at), told)) (inr (none, text', stays')) some some' =
      let no = sym future ∙ none in absurd (cc)
  one_answer line reply reply' next next' Redo says (inr (none, text, stays)) (inl ((q, qs, s, future, step, at), told)) some some' =
      let no = sym future ∙ none in absurd (cc)
  one_answer line reply reply' next next' Redo says (inr (none, text, stays)) (inr (none', text', stays')) some some' = (text ∙ sym text', stays ∙ sym stays')

  pub one_studio_step : (line reply reply' : List ℕ) (next next' : History) → StudioStep S h line reply next → StudioStep S h line reply' next'
      → reply ≢ refused_text Memory → reply' ≢ refused_text Memory → AreAlike reply reply' next next'
  one_studio_step line reply reply' next next' (inl (command, says, answer)) (inl (other, says', answer')) some some' =
      let same = one_studio_command line other command says' says in
      one_answer line reply reply' next next' command says answer (subst (λ (c : StudioCommand). StudioAnswers S h c reply' next') same answer') some some'
  one_studio_step line reply reply' next next' (inl (command, says, answer)) (inr (inl (nothing, text', stays'))) some some' = absurd (nothing command says)
  one_studio_step line reply reply' next next' (inr (inl (nothing, text, stays))) (inl (command, says', answer')) some some' = absurd (nothing command says')
  one_studio_step line reply reply' next next' (inr (inl (nothing, text, stays))) (inr (inl (nothing', text', stays'))) some some' =
      (text ∙ sym text', stays ∙ sym stays')
  one_studio_step line reply reply' next next' (inr (inr (may, text, stays))) other some some' = absurd (some text)
  one_studio_step line reply reply' next next' one (inr (inr (may, text', stays'))) some some' = absurd (some' text')

pub one_studio_answer : (S : Performance → Result (List ℕ) ℕ → Type 0) → HasOneScoreAtMost S → StudioLinesHaveOneAnswer S
one_studio_answer S score = record {
  one = λ h next next' line reply reply' readable is. one_studio_step S score h readable is line reply reply' next next';
  kept = λ h next line reply is. studio_step_kept S h is line reply next;
}
