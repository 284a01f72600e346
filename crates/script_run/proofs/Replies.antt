-- What the replies to lines say.
use Rattle.std.proofs.Common.{◌≡◌, ◌≢◌, ◌∙◌, ℕ, arith, inl, inr, List, [], ◌∷◌, get_or, map, refl, sym, ap, subst, codes, Result, Ok, Err, IfErr, IfOk, None}
use Rattle.std.specs.Prelude.{IsOk, IsTrue, nat_eq}
use Rattle.std.specs.List.{starts_with}
use Rattle.edit_script.specs.ReplyText.{reply_text, shown_by}
use Rattle.edit_script.specs.declared.reply.Refusal.TheVariants as refusals
use Rattle.edit_script.specs.declared.reply.Reply.{Reply}
use Rattle.edit_script.specs.declared.reply.Reply.TheVariants as replies
use Rattle.edit_session.specs.Effects.{AreBuiltInVain, IsApplied, IsRejected}
use Rattle.edit_session.specs.Prepared.{RisesBy}
use Rattle.edit_session.specs.Session.{Session}
use Rattle.edit_session.specs.declared.committed.Applied.{Applied}
use Rattle.edit_script.proofs.CommandWords.{one_command}
use Rattle.rhythm_base.specs.Counter.{risen}
use Rattle.edit_laws.specs.Edits.{cell_tests, edited, first_refusal}
use Rattle.rhythm_base.specs.Grammar.{Grammar}
use Rattle.rhythm_base.specs.Performance.{Performance}
use Rattle.edit_script.specs.Replies.{alternatives_text, bad_line_text, bye_text, done_text, long_score_text, refused_text, score_text}
use Rattle.edit_laws.specs.EditOutcomes.{IsOutcome, made, refused}
use Rattle.script_laws.specs.Script.{IsLineStep}
use Rattle.edit_script.specs.ScriptLines.{Are, ArePinWords, BeginsPin, Is, SaysCommand, SaysNothing, script_words}
use Rattle.edit_script.specs.declared.command.Command.{Command}
use Rattle.edit_script.specs.declared.command.Command.TheVariants.{Change, Score, Alternatives, Quit}
use Rattle.rhythm_base.specs.declared.edit.Edit.{Edit}
use Rattle.rhythm_base.specs.declared.edit_fault.EditFault.{EditFault}
use Rattle.rhythm_base.specs.declared.edit_fault.EditFault.TheVariants.{NoVoice, NoBar, BadSpan, NoNote, SameNote, PastEnd, BarlineOrder, NoteOutside, NotEmpty, OneBar, Limit, NoDerivation, Memory}
use Rattle.kern_writer.specs.PerformanceText.{IsWrittenScore}
use Rattle.script_run.specs.Answers.{AnswersLine, IsBuiltFor, IsBuiltForEdit, Quits, TakesMemory}
use Rattle.script_run.specs.Hearing.{MayAnswer}
use Rattle.script_run.specs.LineReplies.{IsEditReply}

-- ---- a refusal for want of memory is the one reply with its text

differs : (a b : List ℕ) (n : ℕ) → a ≡ b → get_or a n 0 ≡ get_or b n 0
differs a b n e = ap (λ l. get_or l n 0) e

memory_fault : (fault : EditFault) → refused_text fault ≡ refused_text Memory → fault ≡ Memory
memory_fault (NoVoice channel) e = let h : 78 ≡ 77 = differs (refused_text (NoVoice channel)) (refused_text Memory) 8 e in absurd (omega (arith, h))
memory_fault (NoBar bar) e = let h : 78 ≡ 77 = differs (refused_text (NoBar bar)) (refused_text Memory) 8 e in absurd (omega (arith, h))
memory_fault BadSpan e = let h : 66 ≡ 77 = differs (refused_text BadSpan) (refused_text Memory) 8 e in absurd (omega (arith, h))
memory_fault NoNote e = let h : 78 ≡ 77 = differs (refused_text NoNote) (refused_text Memory) 8 e in absurd (omega (arith, h))
memory_fault SameNote e = let h : 83 ≡ 77 = differs (refused_text SameNote) (refused_text Memory) 8 e in absurd (omega (arith, h))
memory_fault (PastEnd last) e = let h : 80 ≡ 77 = differs (refused_text (PastEnd last)) (refused_text Memory) 8 e in absurd (omega (arith, h))
memory_fault (BarlineOrder low high) e = let h : 66 ≡ 77 = differs (refused_text (BarlineOrder low high)) (refused_text Memory) 8 e in absurd (omega (arith, h))
memory_fault (NoteOutside onset) e = let h : 78 ≡ 77 = differs (refused_text (NoteOutside onset)) (refused_text Memory) 8 e in absurd (omega (arith, h))
memory_fault (NotEmpty onset) e = let h : 78 ≡ 77 = differs (refused_text (NotEmpty onset)) (refused_text Memory) 8 e in absurd (omega (arith, h))
memory_fault OneBar e = let h : 79 ≡ 77 = differs (refused_text OneBar) (refused_text Memory) 8 e in absurd (omega (arith, h))
memory_fault (Limit what count) e = let h : 76 ≡ 77 = differs (refused_text (Limit what count)) (refused_text Memory) 8 e in absurd (omega (arith, h))
memory_fault (NoDerivation channel bar) e = let h : 78 ≡ 77 = differs (refused_text (NoDerivation channel bar)) (refused_text Memory) 8 e in absurd (omega (arith, h))
memory_fault Memory e = refl

pub memory_reply : (r : Reply) → reply_text r ≡ refused_text Memory → r ≡ replies.Refused (refusals.Edit Memory)
memory_reply (replies.Done built cost) e = let h : 111 ≡ 114 = differs (done_text built cost) (refused_text Memory) 0 e in absurd (omega (arith, h))
memory_reply (replies.Refused (refusals.Edit fault)) e = ap (λ (f : EditFault). replies.Refused (refusals.Edit f)) (memory_fault fault e)
memory_reply (replies.Refused refusals.Line) e = let h : 76 ≡ 77 = differs bad_line_text (refused_text Memory) 8 e in absurd (omega (arith, h))
memory_reply (replies.Refused (refusals.ScoreTooLong line)) e = let h : 76 ≡ 77 = differs (long_score_text line) (refused_text Memory) 8 e in absurd (omega (arith, h))
memory_reply (replies.Text text) e = let h : 115 ≡ 114 = differs (score_text text.items) (refused_text Memory) 0 e in absurd (omega (arith, h))
memory_reply (replies.List alts) e = let h : 97 ≡ 114 = differs (alternatives_text (map shown_by alts.items)) (refused_text Memory) 0 e in absurd (omega (arith, h))
memory_reply replies.Bye e = let h : 98 ≡ 114 = differs bye_text (refused_text Memory) 0 e in absurd (omega (arith, h))

module _ (g : Grammar) (p : Performance) where
  pub made_answers : (edit : Edit) (built cost : ℕ) (next : Performance) → IsOutcome g p edit (made built cost) next
      → MayAnswer g p (Change edit) (done_text built cost) next
  made_answers edit built cost next h = inl (made built cost, h, refl)

  pub refused_answers : (edit : Edit) (fault : EditFault) (next : Performance) → (fault ≢ Memory → IsOutcome g p edit (refused fault) next) → next ≡ p
      → MayAnswer g p (Change edit) (refused_text fault) next
  refused_answers edit (NoVoice channel) next h same = inl (refused (NoVoice channel), h (λ e. cc), refl)
  refused_answers edit (NoBar bar) next h same = inl (refused (NoBar bar), h (λ e. cc), refl)
  refused_answers edit BadSpan next h same = inl (refused BadSpan, h (λ e. cc), refl)
  refused_answers edit NoNote next h same = inl (refused NoNote, h (λ e. cc), refl)
  refused_answers edit SameNote next h same = inl (refused SameNote, h (λ e. cc), refl)
  refused_answers edit (PastEnd last) next h same = inl (refused (PastEnd last), h (λ e. cc), refl)
  refused_answers edit (BarlineOrder low high) next h same = inl (refused (BarlineOrder low high), h (λ e. cc), refl)
  refused_answers edit (NoteOutside onset) next h same = inl (refused (NoteOutside onset), h (λ e. cc), refl)
  refused_answers edit (NotEmpty onset) next h same = inl (refused (NotEmpty onset), h (λ e. cc), refl)
  refused_answers edit OneBar next h same = inl (refused OneBar, h (λ e. cc), refl)
  refused_answers edit (Limit what count) next h same = inl (refused (Limit what count), h (λ e. cc), refl)
  refused_answers edit (NoDerivation channel bar) next h same = inl (refused (NoDerivation channel bar), h (λ e. cc), refl)
  refused_answers edit Memory next h same = inr (refl, same)

  -- ---- builds

  pub change_builds : (line : List ℕ) (edit : Edit) (reply : List ℕ) (n : ℕ) → SaysCommand line (Change edit) → IsBuiltForEdit g p edit reply n
      → IsBuiltFor g p line reply n
  change_builds line edit reply n says h = record {
    edit = λ other is.
        (let e = one_command line (Change edit) (Change other) says is in
        let same : edit ≡ other = cc in
        subst (λ (x : Edit). IsBuiltForEdit g p x reply n) same h);
    other = λ none. absurd (none edit says);
  }

  -- a line that says another command, or none
  pub other_builds : (line : List ℕ) (command : Command) (reply : List ℕ) → SaysCommand line command → ((edit : Edit) → command ≢ Change edit)
      → IsBuiltFor g p line reply 0
  other_builds line command reply says other = record {
    edit = λ edit is. absurd (other edit (one_command line command (Change edit) says is));
    other = λ none. refl;
  }

  pub edit_lacks_memory : (edit : Edit) (outcome : Result Applied EditFault) (reply : Reply) → IsEditReply outcome reply
      → IfErr outcome (λ fault. fault ≡ Memory → IsOk (edited p edit)) → reply ≡ replies.Refused (refusals.Edit Memory) → IsOk (edited p edit)
  edit_lacks_memory edit (Ok a) reply is may e = let both : replies.Done a.built a.cost ≡ replies.Refused (refusals.Edit Memory) = sym is ∙ e in absurd (cc)
  edit_lacks_memory edit (Err fault) reply is may e =
      let both : replies.Refused (refusals.Edit fault) ≡ replies.Refused (refusals.Edit Memory) = sym is ∙ e in
      let same : fault ≡ Memory = cc in
      may same

  pub edit_builds : (edit : Edit) (outcome : Result Applied EditFault) (reply : Reply) (old new : ℕ) → IsEditReply outcome reply
      → IfOk outcome (λ a. new ≡ risen old a.built) → IfErr outcome (λ fault. RisesBy old new (AreBuiltInVain g p edit fault))
      → (n : ℕ) × IsBuiltForEdit g p edit (reply_text reply) n × (new ≡ risen old n)
  edit_builds edit (Ok a) reply old new is done vain =
      (a.built, subst (λ (r : Reply). IsBuiltForEdit g p edit (reply_text r) a.built) (sym is) (inl (a.cost, refl)), done)
  edit_builds edit (Err fault) reply old new is done vain =
      (vain.0, subst (λ (r : Reply). IsBuiltForEdit g p edit (reply_text r) vain.0) (sym is) (inr ((fault, refl), vain.2.most)), vain.1)

  -- ---- lines

  command_replies : (line : List ℕ) (command : Command) (reply : List ℕ) (next : Performance) → SaysCommand line command → command ≢ Quit → MayAnswer g p command reply next
      → IsLineStep (IsWrittenScore g) g p line reply next
  command_replies line command reply next says goes (inl answers) = inl (command, says, answers)
  command_replies line command reply next says goes (inr (text, same)) = inr (inr (inr (command, says, goes), text, same))

  -- a line that says a command is answered
  command_line : (line : List ℕ) (command : Command) (reply : Reply) (n : ℕ) (next : Performance) → SaysCommand line command → command ≢ Quit
      → MayAnswer g p command (reply_text reply) next → (reply ≡ replies.Refused (refusals.Edit Memory) → TakesMemory p command) → IsBuiltFor g p line (reply_text reply) n
      → AnswersLine g p line (reply_text reply) n next
  command_line line command reply n next says goes answers may built = record {
    step = command_replies line command (reply_text reply) next says goes answers;
    memory = λ e. inr (command, says, may (memory_reply reply e));
    built = built;
  }

  pub change_line : (line : List ℕ) (edit : Edit) (reply : Reply) (n : ℕ) (next : Performance) → SaysCommand line (Change edit)
      → MayAnswer g p (Change edit) (reply_text reply) next → (reply ≡ replies.Refused (refusals.Edit Memory) → IsOk (edited p edit))
      → IsBuiltForEdit g p edit (reply_text reply) n → AnswersLine g p line (reply_text reply) n next
  change_line line edit reply n next says answers may built =
      command_line line (Change edit) reply n next says (λ e. cc) answers may (change_builds line edit (reply_text reply) n says built)

  pub score_line : (line : List ℕ) (reply : Reply) → SaysCommand line Score → MayAnswer g p Score (reply_text reply) p → AnswersLine g p line (reply_text reply) 0 p
  score_line line reply says answers = command_line line Score reply 0 p says (λ e. cc) answers (λ e. tt) (other_builds line Score (reply_text reply) says (λ edit e. cc))

  pub alternatives_line : (line : List ℕ) (channel bar count : ℕ) (reply : Reply) → SaysCommand line (Alternatives channel bar count)
      → MayAnswer g p (Alternatives channel bar count) (reply_text reply) p → (reply ≡ replies.Refused (refusals.Edit Memory) → first_refusal (cell_tests p channel bar) ≡ None)
      → AnswersLine g p line (reply_text reply) 0 p
  alternatives_line line channel bar count reply says answers may =
      command_line line (Alternatives channel bar count) reply 0 p says (λ e. cc) answers may
      (other_builds line (Alternatives channel bar count) (reply_text reply) says (λ edit e. cc))

  pub quit_line : (line : List ℕ) → SaysCommand line Quit → AnswersLine g p line bye_text 0 p
  quit_line line says = record {
    step = inl (Quit, says, (refl, refl));
    memory = λ e. absurd (let wrong : replies.Bye ≡ replies.Refused (refusals.Edit Memory) = memory_reply replies.Bye e in cc);
    built = other_builds line Quit bye_text says (λ edit e. cc);
  }

  pub nothing_line : (line : List ℕ) → SaysNothing line → AnswersLine g p line bad_line_text 0 p
  nothing_line line none = record {
    step = inr (inl (none, refl, refl));
    memory = λ e. absurd (let wrong : replies.Refused refusals.Line ≡ replies.Refused (refusals.Edit Memory) = memory_reply (replies.Refused refusals.Line) e in cc);
    built = record { edit = λ edit is. absurd (none (Change edit) is); other = λ _. refl };
  }

  pub memory_line : (line : List ℕ) → BeginsPin line → IsTrue (starts_with nat_eq line (codes "pin ")) → AnswersLine g p line (refused_text Memory) 0 p
  memory_line line pin begins = record {
    step = inr (inr (inl begins, refl, refl));
    memory = λ e. inl pin;
    built = record { edit = λ edit is. inr ((Memory, refl), λ cells would. omega arith); other = λ _. refl };
  }

-- a line that says no command, or another one, does not say `quit`
pub quits_not : (line : List ℕ) (command : Command) → SaysCommand line command → command ≢ Quit → Quits line → ⊥
quits_not line command says other quits = other (one_command line command Quit says quits)

pub pin_quits_not : (line : List ℕ) → BeginsPin line → Quits line → ⊥
pin_quits_not line pin quits = go (script_words line) pin quits
  where
    go : (words : List (List ℕ)) → ArePinWords words → Are (Is (codes "quit") ∷ []) words → ⊥
    go [] pin asks = absurd pin
    go (a ∷ []) pin asks = absurd pin
    go (a ∷ b ∷ rest) pin asks = absurd asks.1

-- a refusal is no farewell
pub line_is_no_bye : replies.Refused refusals.Line ≡ replies.Bye → ⊥
line_is_no_bye e = cc

-- ---- an edit of a session

module _ (s new : Session) (edit : Edit) where
  pub session_answers : (outcome : Result Applied EditFault) (reply : Reply) → IsEditReply outcome reply
      → IfOk outcome (IsApplied s edit new) → IfErr outcome (IsRejected s edit new) → MayAnswer s.grammar s.performance (Change edit) (reply_text reply) new.performance
  session_answers (Ok a) reply is done rejected =
      subst (λ (r : Reply). MayAnswer s.grammar s.performance (Change edit) (reply_text r) new.performance) (sym is)
      (made_answers s.grammar s.performance edit a.built a.cost new.performance done.made)
  session_answers (Err fault) reply is done rejected =
      subst (λ (r : Reply). MayAnswer s.grammar s.performance (Change edit) (reply_text r) new.performance) (sym is)
      (refused_answers s.grammar s.performance edit fault new.performance (λ other. (rejected.refused other, rejected.performance)) rejected.performance)

  pub session_memory : (outcome : Result Applied EditFault) → IfErr outcome (IsRejected s edit new) → IfErr outcome (λ fault. fault ≡ Memory → IsOk (edited s.performance edit))
  session_memory (Ok a) rejected = tt
  session_memory (Err fault) rejected = rejected.memory

  pub same_grammar : (outcome : Result Applied EditFault) → IfOk outcome (IsApplied s edit new) → IfErr outcome (IsRejected s edit new) → new.grammar ≡ s.grammar
  same_grammar (Ok a) done rejected = done.still.grammar
  same_grammar (Err fault) done rejected = rejected.still.grammar
