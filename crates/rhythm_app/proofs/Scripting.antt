-- The edits of a script file, line by line.
use Rattle.std.proofs.lemmas.Bool.Decides.{nat_tests}
use Rattle.std.proofs.Common.{◌≡◌, ◌==◌, true, ◌≢◌, ◌≤◌, ◌⊎◌, ◌+◌, ◌∙◌, ℕ, List, [], ◌∷◌, length, arith, ap, inl, inr, refl, sym, subst, Option, Some, None, IfErr, OnOk, Result, Ok, Err}
use Rattle.edit_laws.specs.EditOutcomes.{IsOutcome, IsRefused, made}
use Rattle.edit_script.proofs.CommandWords.{one_command}
use Rattle.edit_script.specs.ScriptLines.{SaysCommand}
use Rattle.edit_script.specs.declared.command.Command.{Command}
use Rattle.edit_script.specs.declared.command.Command.TheVariants.{Alternatives, Change, Quit, Score}
use Rattle.edit_session.specs.Effects.{AreBuiltInVain, IsApplied}
use Rattle.edit_session.specs.Prepared.{RisesBy}
use Rattle.edit_session.specs.Session.{Session}
use Rattle.edit_session.specs.declared.committed.Applied.{Applied}
use Rattle.rhythm_app.specs.Lent.{Lent}
use Rattle.rhythm_app.specs.Scripted.{AreLinesMade, IsLineBrokenOff, IsLineMade, IsLineRefused, MayHaveBuilt, Opened, Refused, SaysEdit, edited_to}
use Rattle.rhythm_app.specs.Outcome.{line_stop}
use Rattle.rhythm_app.specs.Stages.{CountsUp, HasEdited, standing}
use Rattle.rhythm_app.specs.declared.stop.Stop.TheVariants as stop
use Rattle.rhythm_base.specs.Counter.{risen}
use Rattle.rhythm_base.specs.Grammar.{Grammar}
use Rattle.rhythm_base.specs.Performance.{Performance}
use Rattle.rhythm_base.specs.declared.edit.Edit.{Edit}
use Rattle.rhythm_base.specs.declared.edit_fault.EditFault.{EditFault}
use Rattle.rhythm_base.specs.declared.edit_fault.EditFault.TheVariants.{Memory}
use Rattle.rhythm_base.specs.declared.edit_fault.EditFault.TheVariants as faults
use Rattle.script_run.proofs.Hearings.{risen_more}

-- the counters were raised, and then raised again
pub counts_on : {S O E : Type 0} (old mid new : Lent S O E) → CountsUp old mid → CountsUp mid new → CountsUp old new
counts_on {S} {O} {E} old mid new first more = (
  more.0 ∙ ap (λ (l : Lent S O E). record l { built = new.built; multiplied = new.multiplied }) first.0,
  (omega (arith, more.1.0, first.1.0), omega (arith, more.1.1, first.1.1)),
)

-- an edit of a session is made
pub edit_made : (s t : Session) (edit : Edit) (a : Applied) (old start new : ℕ) → start ≡ old → IsApplied s edit t a → new ≡ risen start a.built
    → RisesBy old new (λ n. (cost : ℕ) × IsOutcome s.grammar s.performance edit (made n cost) t.performance)
edit_made s t edit a old start new same applied rises = (a.built, subst (λ n. new ≡ risen n a.built) same rises, (a.cost, applied.made))

-- ---- a line

-- a line that says another command says no edit
pub no_edit : (line : List ℕ) (command : Command) → SaysCommand line command → ((edit : Edit) → command ≢ Change edit) → (edit : Edit) → SaysEdit line edit → ⊥
no_edit line command says other edit is = other edit (one_command line command (Change edit) says is.1)

pub score_is_other : (edit : Edit) → Score ≢ Change edit
score_is_other edit e = cc

pub alternatives_are_other : (channel bar count : ℕ) (edit : Edit) → Alternatives channel bar count ≢ Change edit
alternatives_are_other channel bar count edit e = cc

pub quit_is_other : (edit : Edit) → Quit ≢ Change edit
quit_is_other edit e = cc

same_fault : (a b : EditFault) → ◌≡◌ {A = Option EditFault} (Some a) (Some b) → a ≡ b
same_fault a b e = cc

none_is_other : ◌≡◌ {A = Option EditFault} None (Some Memory) → ⊥
none_is_other e = cc

module _ (g : Grammar) (p : Performance) (line : List ℕ) (old new : ℕ) where
  -- its edit is made
  pub line_made : (edit : Edit) (q : Performance) → SaysEdit line edit → RisesBy old new (λ n. (cost : ℕ) × IsOutcome g p edit (made n cost) q) → RisesBy old new (IsLineMade g p line q)
  line_made edit q says (n, rises, (cost, outcome)) = (n, rises, (edit, cost, says, outcome))

  -- it is refused
  pub line_refused : (edit : Edit) (fault : EditFault) → SaysEdit line edit → (fault ≢ Memory → IsRefused g p edit fault)
      → RisesBy old new (AreBuiltInVain g p edit fault) → ◌≢◌ {A = Option EditFault} (Some fault) (Some Memory) → RisesBy old new (IsLineRefused g p line (Some fault))
  line_refused edit fault says refused (n, rises, vain) other =
      let some : fault ≢ Memory = λ e. other (ap (λ (f : EditFault). Some f) e) in
      let all = vain.all some in (n, rises, (edit, all.0, says, refused some, all.1, all.2))

  -- or memory is wanting for it
  pub line_broken : (edit : Edit) (fault : EditFault) → SaysEdit line edit → RisesBy old new (AreBuiltInVain g p edit fault) → RisesBy old new (IsLineBrokenOff g p line)
  line_broken edit fault says (n, rises, vain) = (n, rises, inr (edit, says, vain.most))

module _ (g : Grammar) (p : Performance) (line : List ℕ) (old : ℕ) (fault : Option EditFault) (known : (fault ≡ None) ⊎ (fault ≡ Some Memory)) where
  -- a line says no edit
  pub nothing_said : (fault ≡ None → (edit : Edit) → SaysEdit line edit → ⊥) → fault ≢ Some Memory → RisesBy old old (IsLineRefused g p line fault)
  nothing_said none other = go known
    where
      go : (fault ≡ None) ⊎ (fault ≡ Some Memory) → RisesBy old old (IsLineRefused g p line fault)
      go (inl e) = subst (λ (f : Option EditFault). RisesBy old old (IsLineRefused g p line f)) (sym e) (0, omega arith, (none e, refl))
      go (inr e) = absurd (other e)

  -- or there is not enough memory to read it
  pub unread_line : RisesBy old old (IsLineBrokenOff g p line)
  unread_line = (0, omega arith, inl refl)

-- ---- lines

-- a script without a byte
pub no_bytes : (l : List ℕ) → true ≡ (length l == 0) → l ≡ []
no_bytes [] none = refl
no_bytes (b ∷ bytes) none = let wrong : length (b ∷ bytes) ≡ 0 = grind (arith, nat_tests, none) in absurd (omega (arith, wrong))

-- what lines come to from here on is what those before come to
pub record Leads (from : ℕ) (o : Opened) (lines : List (List ℕ)) (to : ℕ) (now : Opened) (rest : List (List ℕ)) : Type 0 where
  pub makes : (r : Result Opened Refused) → AreLinesMade to now rest r → AreLinesMade from o lines r
  pub builds : (n : ℕ) → MayHaveBuilt now rest n → MayHaveBuilt o lines n

pub leads_here : (from : ℕ) (o : Opened) (lines : List (List ℕ)) → Leads from o lines from o lines
leads_here from o lines = record { makes = λ r h. h; builds = λ n h. h }

-- one line more is made
pub leads_more : (from to : ℕ) (o now next : Opened) (lines rest : List (List ℕ)) (line : List ℕ) (q : Performance) (n : ℕ) → Leads from o lines to now (line ∷ rest)
    → IsLineMade now.grammar now.performance line q n → next ≡ edited_to now q n → Leads from o lines (to + 1) next rest
leads_more from to o now next lines rest line q n leads done same =
    subst (λ (x : Opened). Leads from o lines (to + 1) x rest) (sym same) (record {
      makes = λ r h. leads.makes r (inr (q, n, done, h));
      builds = λ m h. leads.builds m (inr (q, n, done, h));
    })

-- after the last line as many cells are built as may be
pub made_may : (number : ℕ) (o : Opened) (lines : List (List ℕ)) (last : Opened) → AreLinesMade number o lines (Ok last) → MayHaveBuilt o lines last.built
made_may number o [] last h = ap (λ (x : Opened). x.built) (same_opened last o h)
  where
    same_opened : (a b : Opened) → ◌≡◌ {A = Result Opened Refused} (Ok a) (Ok b) → a ≡ b
    same_opened a b e = cc
made_may number o (line ∷ lines) last (inl (fault, n, refused, e)) = absurd (cc)
made_may number o (line ∷ lines) last (inr (q, n, done, h)) = inr (q, n, done, made_may (number + 1) (edited_to o q n) lines last h)

-- ---- the lines of a script over a session

-- so far the lines of a script are made
abbrev pub AreMadeSoFar : Session → Session → ℕ → ℕ → List (List ℕ) → ℕ → List (List ℕ) → Type 0
AreMadeSoFar s t before now lines number rest =
    (from n : ℕ) → before ≡ risen from n → (m : ℕ) × (now ≡ risen from m) × Leads 1 (standing s n) lines number (standing t m) rest

pub none_made : (s : Session) (before : ℕ) (lines : List (List ℕ)) → AreMadeSoFar s s before before lines 1 lines
none_made s before lines from n is = (n, is, leads_here 1 (standing s n) lines)

-- a rise after a rise
risen_on : (from m now next k : ℕ) → now ≡ risen from m → next ≡ risen now k → next ≡ risen from (m + k)
risen_on from m now next k before rises = rises ∙ ap (λ x. risen x k) before ∙ risen_more from m k

module _ (s t : Session) (before now : ℕ) (lines rest : List (List ℕ)) (number : ℕ) (line : List ℕ) (so_far : AreMadeSoFar s t before now lines number (line ∷ rest)) (next : ℕ) where
  pub one_made : (u : Session) → u.grammar ≡ t.grammar → RisesBy now next (IsLineMade t.grammar t.performance line u.performance) → AreMadeSoFar s u before next lines (number + 1) rest
  one_made u grammar (k, rises, done) from n is =
      let (m, had, leads) = so_far from n is in
      let same : standing u (m + k) ≡ edited_to (standing t m) u.performance k = ap (λ (g : Grammar). record { grammar = g; performance = u.performance; built = m + k }) grammar in
      (m + k, risen_on from m now next k had rises, leads_more 1 number (standing s n) (standing t m) (standing u (m + k)) lines rest line u.performance k leads done same)

  pub one_refused : (T : Type 0) (q : Performance) (fault : Option EditFault) → RisesBy now next (IsLineRefused t.grammar t.performance line fault)
      → (from n : ℕ) → before ≡ risen from n → HasEdited {T = T} (standing s n) lines from next q (Err (stop.ScriptLine number fault))
  one_refused T q fault (k, rises, refused) from n is =
      let (m, had, leads) = so_far from n is in
      let x : Refused = record { line = number; fault = fault; built = m + k } in
      inl (x, leads.makes (Err x) (inl (fault, k, refused, refl)), refl, risen_on from m now next k had rises)

  pub one_broken : (T : Type 0) (q : Performance) → RisesBy now next (IsLineBrokenOff t.grammar t.performance line)
      → (from n : ℕ) → before ≡ risen from n → HasEdited {T = T} (standing s n) lines from next q (Err stop.Memory)
  one_broken T q (k, rises, broken) from n is =
      let (m, had, leads) = so_far from n is in inr (refl, (m + k, risen_on from m now next k had rises, leads.builds (m + k) (inl (k, broken, refl))))

  -- the edits end at a line
  pub one_ended : (T : Type 0) (q : Performance) (fault : Option EditFault) → (fault ≢ Some Memory → RisesBy now next (IsLineRefused t.grammar t.performance line fault))
      → (fault ≡ Some Memory → RisesBy now next (IsLineBrokenOff t.grammar t.performance line))
      → (from n : ℕ) → before ≡ risen from n → HasEdited {T = T} (standing s n) lines from next q (Err (line_stop number fault))
  one_ended T q None refused broken = one_refused T q None (refused (λ e. cc))
  one_ended T q (Some (faults.NoVoice a)) refused broken = one_refused T q (Some (faults.NoVoice a)) (refused (λ e. cc))
  one_ended T q (Some (faults.NoBar a)) refused broken = one_refused T q (Some (faults.NoBar a)) (refused (λ e. cc))
  one_ended T q (Some faults.BadSpan) refused broken = one_refused T q (Some faults.BadSpan) (refused (λ e. cc))
  one_ended T q (Some faults.NoNote) refused broken = one_refused T q (Some faults.NoNote) (refused (λ e. cc))
  one_ended T q (Some faults.SameNote) refused broken = one_refused T q (Some faults.SameNote) (refused (λ e. cc))
  one_ended T q (Some (faults.PastEnd a)) refused broken = one_refused T q (Some (faults.PastEnd a)) (refused (λ e. cc))
  one_ended T q (Some (faults.BarlineOrder a b)) refused broken = one_refused T q (Some (faults.BarlineOrder a b)) (refused (λ e. cc))
  one_ended T q (Some (faults.NoteOutside a)) refused broken = one_refused T q (Some (faults.NoteOutside a)) (refused (λ e. cc))
  one_ended T q (Some (faults.NotEmpty a)) refused broken = one_refused T q (Some (faults.NotEmpty a)) (refused (λ e. cc))
  one_ended T q (Some faults.OneBar) refused broken = one_refused T q (Some faults.OneBar) (refused (λ e. cc))
  one_ended T q (Some (faults.Limit a b)) refused broken = one_refused T q (Some (faults.Limit a b)) (refused (λ e. cc))
  one_ended T q (Some (faults.NoDerivation a b)) refused broken = one_refused T q (Some (faults.NoDerivation a b)) (refused (λ e. cc))
  one_ended T q (Some Memory) refused broken = one_broken T q (broken refl)

-- no line is left
pub all_made : {T : Type 0} (s t : Session) (before now : ℕ) (lines : List (List ℕ)) (number : ℕ) → AreMadeSoFar s t before now lines number [] → (x : T)
    → (from n : ℕ) → before ≡ risen from n → HasEdited (standing s n) lines from now t.performance (Ok x)
all_made s t before now lines number so_far x from n is =
    let (m, had, leads) = so_far from n is in (standing t m, leads.makes (Ok (standing t m)) refl, refl, had)
