-- What the edits of a script come to is one.
use Rattle.std.proofs.Common.{◌≡◌, ◌≢◌, ◌+◌, ◌∙◌, ℕ, List, [], ◌∷◌, length, ap, ap₂, inl, inr, refl, subst, sym, MatchResult, Option, Some, None, Result, Ok, Err}
use Rattle.edit_laws.proofs.Edited.{edited_formed}
use Rattle.edit_laws.proofs.OneReached.{one_reached}
use Rattle.edit_laws.specs.EditOutcomes.{IsMade, IsRefused}
use Rattle.edit_laws.specs.Edits.{edited}
use Rattle.edit_laws.specs.Reached.{AreReached, WouldReach}
use Rattle.edit_script.proofs.CommandWords.{edit_in_range, one_command}
use Rattle.edit_script.specs.ScriptLines.{script_words}
use Rattle.edit_script.specs.declared.command.Command.{Command}
use Rattle.edit_script.specs.declared.command.Command.TheVariants.{Change}
use Rattle.performance_laws.proofs.OneVoices.{cost_has}
use Rattle.rhythm_app.specs.Scripted.{AreLinesMade, IsLineMade, IsLineRefused, Opened, Refused, SaysEdit, edited_to}
use Rattle.rhythm_base.specs.Grammar.{Grammar}
use Rattle.rhythm_base.specs.Performance.{IsWellFormed, Performance}
use Rattle.rhythm_base.specs.Readable.{IsReadable}
use Rattle.rhythm_base.specs.Voices.{IsCostOf, IsDeadVoice}
use Rattle.rhythm_base.specs.declared.edit.Edit.{Edit}
use Rattle.rhythm_base.specs.declared.edit_fault.EditFault.{EditFault}
use Rattle.rhythm_base.specs.declared.edit_fault.EditFault.TheVariants.{NoDerivation}
use Rattle.script_laws.proofs.OneAnswers.{answers_are_one}

-- a line says one edit at most
one_edit : (line : List ℕ) (a b : Edit) → SaysEdit line a → SaysEdit line b → a ≡ b
one_edit line a b h k = same a b (one_command line (Change a) (Change b) h.1 k.1)
  where
    same : (a b : Edit) → ◌≡◌ {A = Command} (Change a) (Change b) → a ≡ b
    same a b e = cc

same_made : (p q : Performance) → ◌≡◌ {A = Result Performance EditFault} (Ok p) (Ok q) → p ≡ q
same_made p q e = cc

module _ (g : Grammar) (read : IsReadable g) (p : Performance) (formed : IsWellFormed p) where
  -- the cells that an edit would have reached are one list
  one_would : (edit : Edit) (a b : List (ℕ × ℕ)) → WouldReach g p edit a → WouldReach g p edit b → a ≡ b
  one_would edit a b = go (edited p edit)
    where
      go : (r : Result Performance EditFault) → MatchResult r (λ q. AreReached g p q a) (λ fault. a ≡ []) → MatchResult r (λ q. AreReached g p q b) (λ fault. b ≡ []) → a ≡ b
      go (Ok q) h k = one_reached g p q a b h k
      go (Err fault) h k = h ∙ sym k

  module _ (line : List ℕ) where
    formed_after : (edit : Edit) (q : Performance) → SaysEdit line edit → edited p edit ≡ Ok q → IsWellFormed q
    formed_after edit q says done = edited_formed p q edit formed (edit_in_range edit (script_words line) says.1) done

    one_refusal : (edit : Edit) → SaysEdit line edit → (a b : EditFault) → IsRefused g p edit a → IsRefused g p edit b → a ≡ b
    one_refusal edit says a b (inl h) (inl k) = same a b (sym h ∙ k)
      where
        same : (a b : EditFault) → ◌≡◌ {A = Result Performance EditFault} (Err a) (Err b) → a ≡ b
        same a b e = cc
    one_refusal edit says a b (inl h) (inr (q, channel, bar, done, dead, named)) = absurd (cc)
    one_refusal edit says a b (inr (q, channel, bar, done, dead, named)) (inl k) = absurd (cc)
    one_refusal edit says a b (inr (q, channel, bar, done, dead, named)) (inr (q', channel', bar', done', dead', named')) =
        let same : q' ≡ q = same_made q' q (sym done' ∙ done) in
        let one = (answers_are_one g read.ranges.some_unit).dead q channel bar channel' bar' (formed_after edit q says done) dead (subst (λ (r : Performance). IsDeadVoice g r channel' bar') same dead') in
        named ∙ ap₂ NoDerivation one.0 one.1 ∙ sym named'

    -- an edit that is refused is not made
    not_both : (edit : Edit) → SaysEdit line edit → (fault : EditFault) (q : Performance) (cells : List (ℕ × ℕ)) (cost : ℕ) → IsRefused g p edit fault → IsMade g p edit q cells cost → ⊥
    not_both edit says fault q cells cost (inl h) is = let done = is.made in absurd (cc)
    not_both edit says fault q cells cost (inr (r, channel, bar, done, dead, named)) is =
        let same : q ≡ r = same_made q r (sym is.made ∙ done) in
        let costs : IsCostOf g r cost = subst (λ (x : Performance). IsCostOf g x cost) same is.costs in
        (answers_are_one g read.ranges.some_unit).none r channel bar (formed_after edit r says done) dead (cost_has g r r.channels cost channel costs dead.voice)

    abbrev WhyRefused : Type 0
    WhyRefused = (fault : Option EditFault) × (n : ℕ) × IsLineRefused g p line fault n

    one_why : (a b : Option EditFault) (m n : ℕ) → IsLineRefused g p line a m → IsLineRefused g p line b n → (a ≡ b) × (m ≡ n)
    one_why None None m n h k = (refl, h.1 ∙ sym k.1)
    one_why None (Some b) m n (never, none) (edit, cells, says, refused, would, count) = absurd (never edit says)
    one_why (Some a) None m n (edit, cells, says, refused, would, count) (never, none) = absurd (never edit says)
    one_why (Some a) (Some b) m n (edit, cells, says, refused, would, count) (edit', cells', says', refused', would', count') =
        let same : edit' ≡ edit = one_edit line edit' edit says' says in
        let why = one_refusal edit says a b refused (subst (λ (e : Edit). IsRefused g p e b) same refused') in
        let reached = one_would edit cells cells' would (subst (λ (e : Edit). WouldReach g p e cells') same would') in
        (ap (λ (f : EditFault). Some f) why, count ∙ ap length reached ∙ sym count')

    refused_or_made : (fault : Option EditFault) (m n : ℕ) (q : Performance) → IsLineRefused g p line fault m → IsLineMade g p line q n → ⊥
    refused_or_made None m n q (never, none) (edit, cost, says, outcome) = never edit says
    refused_or_made (Some fault) m n q (edit, cells, says, refused, would, count) (edit', cost, says', (cells', is, count')) =
        let same : edit' ≡ edit = one_edit line edit' edit says' says in
        not_both edit says fault q cells' cost refused (subst (λ (e : Edit). IsMade g p e q cells' cost) same is)

    one_made : (q r : Performance) (m n : ℕ) → IsLineMade g p line q m → IsLineMade g p line r n → (q ≡ r) × (m ≡ n)
    one_made q r m n (edit, cost, says, (cells, is, count)) (edit', cost', says', (cells', is', count')) =
        let edits : edit' ≡ edit = one_edit line edit' edit says' says in
        let there = subst (λ (e : Edit). IsMade g p e r cells' cost') edits is' in
        let same : q ≡ r = same_made q r (sym is.made ∙ there.made) in
        let reached = one_reached g p r cells cells' (subst (λ (x : Performance). AreReached g p x cells) same is.reaches) there.reaches in
        (same, count ∙ ap length reached ∙ sym count')

    made_formed : (q : Performance) (n : ℕ) → IsLineMade g p line q n → IsWellFormed q
    made_formed q n (edit, cost, says, (cells, is, count)) = formed_after edit q says is.made

-- lines come to one performance, or to one line that is refused
pub one_run : (number : ℕ) (o : Opened) (lines : List (List ℕ)) (r s : Result Opened Refused) → IsReadable o.grammar → IsWellFormed o.performance
    → AreLinesMade number o lines r → AreLinesMade number o lines s → r ≡ s
one_run number o [] r s read formed h k = h ∙ sym k
one_run number o (line ∷ lines) r s read formed (inl (fault, n, refused, e)) (inl (fault', n', refused', e')) =
    let same = one_why o.grammar read o.performance formed line fault fault' n n' refused refused' in
    e ∙ (λ i. Err (record { line = number; fault = same.0 i; built = o.built + same.1 i })) ∙ sym e'
one_run number o (line ∷ lines) r s read formed (inl (fault, n, refused, e)) (inr (q, m, made, k)) =
    absurd (refused_or_made o.grammar read o.performance formed line fault n m q refused made)
one_run number o (line ∷ lines) r s read formed (inr (q, m, made, h)) (inl (fault, n, refused, e)) =
    absurd (refused_or_made o.grammar read o.performance formed line fault n m q refused made)
one_run number o (line ∷ lines) r s read formed (inr (q, m, made, h)) (inr (q', m', made', k)) =
    let same = one_made o.grammar read o.performance formed line q' q m' m made' made in
    let next : edited_to o q' m' ≡ edited_to o q m = λ i. record { grammar = o.grammar; performance = same.0 i; built = o.built + same.1 i } in
    one_run (number + 1) (edited_to o q m) lines r s read (made_formed o.grammar read o.performance formed line q m made) h
    (subst (λ (x : Opened). AreLinesMade (number + 1) x lines s) next k)

-- what is edited stays well formed
pub run_formed : (number : ℕ) (o last : Opened) (lines : List (List ℕ)) → IsReadable o.grammar → IsWellFormed o.performance → AreLinesMade number o lines (Ok last)
    → IsReadable last.grammar × IsWellFormed last.performance
run_formed number o last [] read formed h = subst (λ (x : Opened). IsReadable x.grammar × IsWellFormed x.performance) (same o last h) (read, formed)
  where
    same : (a b : Opened) → ◌≡◌ {A = Result Opened Refused} (Ok b) (Ok a) → a ≡ b
    same a b e = cc
run_formed number o last (line ∷ lines) read formed (inl (fault, n, refused, e)) = absurd (cc)
run_formed number o last (line ∷ lines) read formed (inr (q, n, made, h)) =
    run_formed (number + 1) (edited_to o q n) last lines read (made_formed o.grammar read o.performance formed line q n made) h
