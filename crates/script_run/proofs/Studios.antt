-- What the replies to the lines of a studio say.
use Rattle.std.proofs.Common.{◌≡◌, ◌≢◌, ◌∙◌, ◌⊎◌, ℕ, arith, inl, inr, List, [], get_or, refl, sym, ap, subst, codes, Result, Ok, Err, IfErr, IfOk, OnErr, OnOk, None}
use Rattle.std.specs.Prelude.{IsOk, IsTrue, nat_eq}
use Rattle.std.specs.List.{starts_with}
use Rattle.edit_script.specs.ReplyText.{reply_text}
use Rattle.edit_script.specs.declared.reply.Refusal.TheVariants as refusals
use Rattle.edit_script.specs.declared.reply.Reply.{Reply}
use Rattle.edit_script.specs.declared.reply.Reply.TheVariants as replies
use Rattle.edit_session.specs.declared.committed.Applied.{Applied}
use Rattle.rhythm_base.specs.Grammar.{Grammar}
use Rattle.rhythm_base.specs.Performance.{Performance}
use Rattle.edit_laws.specs.Edits.{cell_tests, edited, first_refusal}
use Rattle.edit_script.specs.Replies.{bad_line_text, bye_text, done_text, refused_text}
use Rattle.edit_laws.specs.EditOutcomes.{IsOutcome, made, refused}
use Rattle.edit_script.specs.ScriptLines.{BeginsPin, SaysCommand}
use Rattle.edit_script.specs.declared.command.Command.{Command}
use Rattle.edit_script.specs.declared.command.Command.TheVariants.{Change, Score, Alternatives, Quit}
use Rattle.rhythm_base.specs.declared.edit.Edit.{Edit}
use Rattle.rhythm_base.specs.declared.edit_fault.EditFault.{EditFault}
use Rattle.rhythm_base.specs.declared.edit_fault.EditFault.TheVariants.{NoVoice, NoBar, BadSpan, NoNote, SameNote, PastEnd, BarlineOrder, NoteOutside, NotEmpty, OneBar, Limit, NoDerivation, Memory}
use Rattle.session_history.specs.Changes.{IsRedone, IsUndone}
use Rattle.session_history.specs.Effects.{IsStepAnswer, IsStepMade, IsStepRefused}
use Rattle.session_history.specs.History.{History}
use Rattle.session_history.specs.Studio.{TellsCost, StudioStep}
use Rattle.session_history.specs.StudioLines.{SaysNoStudio, SaysStudio}
use Rattle.session_history.specs.StudioReplies.{no_step_text, studio_reply_text}
use Rattle.session_history.specs.declared.history.NoStep.{NoStep}
use Rattle.session_history.specs.declared.studio_command.StudioCommand.{StudioCommand}
use Rattle.session_history.specs.declared.studio_command.StudioCommand.TheVariants.{Plain, Redo, Undo}
use Rattle.session_history.specs.declared.studio_reply.StudioReply.{StudioReply}
use Rattle.session_history.specs.declared.studio_reply.StudioReply.TheVariants as studio
use Rattle.session_history.proofs.StudioWords.{one_studio_command}
use Rattle.kern_writer.specs.PerformanceText.{IsWrittenScore}
use Rattle.script_run.specs.Answers.{IsBuiltFor, IsBuiltForEdit, Quits, TakesMemory}
use Rattle.script_run.specs.Hearing.{MayAnswer}
use Rattle.script_run.specs.LineReplies.{IsEditReply, IsStepReply}
use Rattle.script_run.specs.Studio.{AnswersStudioLine, MayAnswerInStudio}
use Rattle.script_run.proofs.Replies.{change_builds, memory_reply, other_builds}

-- no step to go is another refusal than want of memory
no_step_reply : no_step_text ≡ refused_text Memory → ⊥
no_step_reply e = let h : 78 ≡ 77 = ap (λ l. get_or l 8 0) e in absurd (omega (arith, h))

done_reply : (built cost : ℕ) → done_text built cost ≡ refused_text Memory → ⊥
done_reply built cost e = let wrong : replies.Done built cost ≡ replies.Refused (refusals.Edit Memory) = memory_reply (replies.Done built cost) e in absurd (cc)

module _ (h : History) where
  -- ---- steps

  step_builds : (line : List ℕ) (step : StudioCommand) (reply : List ℕ) → SaysStudio line step → ((command : Command) → step ≢ Plain command) → IsBuiltFor h.grammar h.present line reply 0
  step_builds line step reply says other = record {
    edit = λ edit is. absurd (other (Change edit) (one_studio_command line step (Plain (Change edit)) says is));
    other = λ none. refl;
  }

  abbrev StepsSo : (History → Type 0) → Type 0 → List ℕ → History → Type 0
  StepsSo Goes none reply next = (Goes next × TellsCost next reply) ⊎ (none × (reply ≡ no_step_text) × (next ≡ h))

  steps_so : (Goes : History → Type 0) (none : Type 0) (outcome : Result Applied NoStep) (reply : StudioReply) (next : History) → IsStepReply outcome reply
      → OnOk outcome (Goes next) → IfOk outcome (IsStepAnswer next) → OnErr outcome none → OnErr outcome (next ≡ h)
      → StepsSo Goes none (studio_reply_text reply) next × (studio_reply_text reply ≡ refused_text Memory → ⊥)
  steps_so Goes none (Ok a) reply next is goes told lacks stays =
      let text : studio_reply_text reply ≡ done_text 0 a.cost = ap studio_reply_text is ∙ ap (λ n. done_text n a.cost) told.0 in
      (inl (goes, (a.cost, told.1, text)), λ e. done_reply 0 a.cost (sym text ∙ e))
  steps_so Goes none (Err x) reply next is goes told lacks stays =
      (inr (lacks, ap studio_reply_text is, stays), λ e. no_step_reply (sym (ap studio_reply_text is) ∙ e))

  pub undo_line : (line : List ℕ) (outcome : Result Applied NoStep) (reply : StudioReply) (next : History) → SaysStudio line Undo → IsStepReply outcome reply
      → OnOk outcome (IsUndone h next) → IfOk outcome (IsStepAnswer next) → OnErr outcome (h.past ≡ []) → OnErr outcome (next ≡ h)
      → AnswersStudioLine h line (studio_reply_text reply) 0 next
  undo_line line outcome reply next says is goes told lacks stays =
      let so = steps_so (IsUndone h) (h.past ≡ []) outcome reply next is goes told lacks stays in
      record { step = inl (Undo, says, so.0); memory = λ e. absurd (so.1 e); built = step_builds line Undo (studio_reply_text reply) says (λ command e. cc) }

  pub redo_line : (line : List ℕ) (outcome : Result Applied NoStep) (reply : StudioReply) (next : History) → SaysStudio line Redo → IsStepReply outcome reply
      → OnOk outcome (IsRedone h next) → IfOk outcome (IsStepAnswer next) → OnErr outcome (h.future ≡ []) → OnErr outcome (next ≡ h)
      → AnswersStudioLine h line (studio_reply_text reply) 0 next
  redo_line line outcome reply next says is goes told lacks stays =
      let so = steps_so (IsRedone h) (h.future ≡ []) outcome reply next is goes told lacks stays in
      record { step = inl (Redo, says, so.0); memory = λ e. absurd (so.1 e); built = step_builds line Redo (studio_reply_text reply) says (λ command e. cc) }

  pub step_is_no_bye : (outcome : Result Applied NoStep) (reply : StudioReply) → IsStepReply outcome reply → reply ≡ studio.Plain replies.Bye → ⊥
  step_is_no_bye (Ok a) reply is e = let both : studio.Plain (replies.Done a.built a.cost) ≡ studio.Plain replies.Bye = sym is ∙ e in absurd (cc)
  step_is_no_bye (Err x) reply is e = let both : studio.NoStep ≡ studio.Plain replies.Bye = sym is ∙ e in absurd (cc)

  -- ---- edits

  refused_in_studio : (edit : Edit) (fault : EditFault) → (fault ≢ Memory → IsOutcome h.grammar h.present edit (refused fault) h.present)
      → MayAnswerInStudio h (Plain (Change edit)) (refused_text fault) h
  refused_in_studio edit (NoVoice channel) is = inl (refused (NoVoice channel), is (λ e. cc), refl, refl)
  refused_in_studio edit (NoBar bar) is = inl (refused (NoBar bar), is (λ e. cc), refl, refl)
  refused_in_studio edit BadSpan is = inl (refused BadSpan, is (λ e. cc), refl, refl)
  refused_in_studio edit NoNote is = inl (refused NoNote, is (λ e. cc), refl, refl)
  refused_in_studio edit SameNote is = inl (refused SameNote, is (λ e. cc), refl, refl)
  refused_in_studio edit (PastEnd last) is = inl (refused (PastEnd last), is (λ e. cc), refl, refl)
  refused_in_studio edit (BarlineOrder low high) is = inl (refused (BarlineOrder low high), is (λ e. cc), refl, refl)
  refused_in_studio edit (NoteOutside onset) is = inl (refused (NoteOutside onset), is (λ e. cc), refl, refl)
  refused_in_studio edit (NotEmpty onset) is = inl (refused (NotEmpty onset), is (λ e. cc), refl, refl)
  refused_in_studio edit OneBar is = inl (refused OneBar, is (λ e. cc), refl, refl)
  refused_in_studio edit (Limit what count) is = inl (refused (Limit what count), is (λ e. cc), refl, refl)
  refused_in_studio edit (NoDerivation channel bar) is = inl (refused (NoDerivation channel bar), is (λ e. cc), refl, refl)
  refused_in_studio edit Memory is = inr (refl, refl)

  pub edit_in_studio : (edit : Edit) (outcome : Result Applied EditFault) (reply : Reply) (next : History) → IsEditReply outcome reply
      → IfOk outcome (IsStepMade h edit next) → IfErr outcome (IsStepRefused h edit next) → MayAnswerInStudio h (Plain (Change edit)) (reply_text reply) next
  edit_in_studio edit (Ok a) reply next is done refuses =
      subst (λ (r : Reply). MayAnswerInStudio h (Plain (Change edit)) (reply_text r) next) (sym is) (inl (made a.built a.cost, done.made, done.step, refl))
  edit_in_studio edit (Err fault) reply next is done refuses =
      subst (λ (r : Reply). MayAnswerInStudio h (Plain (Change edit)) (reply_text r) next) (sym is)
      (subst (λ (k : History). MayAnswerInStudio h (Plain (Change edit)) (refused_text fault) k) (sym refuses.unchanged)
      (refused_in_studio edit fault (λ other. (refuses.refused other, refl))))

  pub studio_memory : (edit : Edit) (outcome : Result Applied EditFault) (next : History) → IfErr outcome (IsStepRefused h edit next)
      → IfErr outcome (λ fault. fault ≡ Memory → IsOk (edited h.present edit))
  studio_memory edit (Ok a) next refuses = tt
  studio_memory edit (Err fault) next refuses = refuses.memory

  -- ---- lines

  command_step : (line : List ℕ) (command : Command) (reply : List ℕ) (next : History) → SaysCommand line command → command ≢ Quit → MayAnswerInStudio h (Plain command) reply next
      → StudioStep (IsWrittenScore h.grammar) h line reply next
  command_step line command reply next says goes (inl answers) = inl (Plain command, says, answers)
  command_step line command reply next says goes (inr (text, same)) = inr (inr (inr (command, says, goes), text, same))

  studio_line : (line : List ℕ) (command : Command) (reply : Reply) (n : ℕ) (next : History) → SaysCommand line command → command ≢ Quit
      → MayAnswerInStudio h (Plain command) (reply_text reply) next → (reply ≡ replies.Refused (refusals.Edit Memory) → TakesMemory h.present command)
      → IsBuiltFor h.grammar h.present line (reply_text reply) n → AnswersStudioLine h line (reply_text reply) n next
  studio_line line command reply n next says goes answers may built = record {
    step = command_step line command (reply_text reply) next says goes answers;
    memory = λ e. inr (command, says, may (memory_reply reply e));
    built = built;
  }

  pub change_in_studio : (line : List ℕ) (edit : Edit) (reply : Reply) (n : ℕ) (next : History) → SaysCommand line (Change edit)
      → MayAnswerInStudio h (Plain (Change edit)) (reply_text reply) next → (reply ≡ replies.Refused (refusals.Edit Memory) → IsOk (edited h.present edit))
      → IsBuiltForEdit h.grammar h.present edit (reply_text reply) n → AnswersStudioLine h line (reply_text reply) n next
  change_in_studio line edit reply n next says answers may built =
      studio_line line (Change edit) reply n next says (λ e. cc) answers may (change_builds h.grammar h.present line edit (reply_text reply) n says built)

  -- a command that changes nothing is answered as by an editor
  kept_in_studio : (command : Command) (reply : List ℕ) → ((edit : Edit) → command ≢ Change edit) → MayAnswer h.grammar h.present command reply h.present → MayAnswerInStudio h (Plain command) reply h
  kept_in_studio (Change edit) reply other answers = absurd (other edit refl)
  kept_in_studio Score reply other (inl answers) = inl (answers, refl)
  kept_in_studio (Alternatives channel bar count) reply other (inl answers) = inl (answers, refl)
  kept_in_studio Quit reply other (inl answers) = inl (answers, refl)
  kept_in_studio Score reply other (inr (text, same)) = inr (text, refl)
  kept_in_studio (Alternatives channel bar count) reply other (inr (text, same)) = inr (text, refl)
  kept_in_studio Quit reply other (inr (text, same)) = inr (text, refl)

  -- the session stands on the grammar and the present
  module _ (g : Grammar) (p : Performance) (same_grammar : g ≡ h.grammar) (same_present : p ≡ h.present) where
    of_session : (command : Command) (reply : List ℕ) → MayAnswer g p command reply p → MayAnswer h.grammar h.present command reply h.present
    of_session command reply answers =
        subst (λ (q : Performance). MayAnswer h.grammar q command reply q) same_present (subst (λ (x : Grammar). MayAnswer x p command reply p) same_grammar answers)

    pub score_in_studio : (line : List ℕ) (reply : Reply) → SaysCommand line Score → MayAnswer g p Score (reply_text reply) p
        → AnswersStudioLine h line (reply_text reply) 0 h
    score_in_studio line reply says answers =
        studio_line line Score reply 0 h says (λ e. cc) (kept_in_studio Score (reply_text reply) (λ edit e. cc) (of_session Score (reply_text reply) answers)) (λ e. tt)
        (other_builds h.grammar h.present line Score (reply_text reply) says (λ edit e. cc))

    pub alternatives_in_studio : (line : List ℕ) (channel bar count : ℕ) (reply : Reply) → SaysCommand line (Alternatives channel bar count)
        → MayAnswer g p (Alternatives channel bar count) (reply_text reply) p
        → (reply ≡ replies.Refused (refusals.Edit Memory) → first_refusal (cell_tests p channel bar) ≡ None) → AnswersStudioLine h line (reply_text reply) 0 h
    alternatives_in_studio line channel bar count reply says answers may =
        studio_line line (Alternatives channel bar count) reply 0 h says (λ e. cc)
        (kept_in_studio (Alternatives channel bar count) (reply_text reply) (λ edit e. cc) (of_session (Alternatives channel bar count) (reply_text reply) answers))
        (λ e. subst (λ (q : Performance). first_refusal (cell_tests q channel bar) ≡ None) same_present (may e))
        (other_builds h.grammar h.present line (Alternatives channel bar count) (reply_text reply) says (λ edit e. cc))

  pub quit_in_studio : (line : List ℕ) → SaysCommand line Quit → AnswersStudioLine h line bye_text 0 h
  quit_in_studio line says = record {
    step = inl (Plain Quit, says, ((refl, refl), refl));
    memory = λ e. absurd (let wrong : replies.Bye ≡ replies.Refused (refusals.Edit Memory) = memory_reply replies.Bye e in cc);
    built = other_builds h.grammar h.present line Quit bye_text says (λ edit e. cc);
  }

  pub nothing_in_studio : (line : List ℕ) → SaysNoStudio line → AnswersStudioLine h line bad_line_text 0 h
  nothing_in_studio line none = record {
    step = inr (inl (none, refl, refl));
    memory = λ e. absurd (let wrong : replies.Refused refusals.Line ≡ replies.Refused (refusals.Edit Memory) = memory_reply (replies.Refused refusals.Line) e in cc);
    built = record { edit = λ edit is. absurd (none (Plain (Change edit)) is); other = λ _. refl };
  }

  pub memory_in_studio : (line : List ℕ) → BeginsPin line → IsTrue (starts_with nat_eq line (codes "pin ")) → AnswersStudioLine h line (refused_text Memory) 0 h
  memory_in_studio line pin begins = record {
    step = inr (inr (inl begins, refl, refl));
    memory = λ e. inl pin;
    built = record { edit = λ edit is. inr ((Memory, refl), λ cells would. omega arith); other = λ _. refl };
  }

-- a line that says something else does not say `quit`
pub studio_quits_not : (line : List ℕ) (command : StudioCommand) → SaysStudio line command → command ≢ Plain Quit → Quits line → ⊥
studio_quits_not line command says other quits = other (one_studio_command line command (Plain Quit) says quits)

-- a refusal is no farewell
pub studio_line_is_no_bye : studio.Plain (replies.Refused refusals.Line) ≡ studio.Plain replies.Bye → ⊥
studio_line_is_no_bye e = cc
