-- A line of an edit script has one answer, but for want of memory.
use Rattle.std.proofs.Common.{◌≡◌, ℕ, ◌⊎◌, inl, inr, List, length, map, sym, ap, ap₂, ◌∙◌, subst, Some, None, Result, Ok, Err}
use Rattle.std.specs.Prelude.{◌≢◌}
use Rattle.edit_script.specs.declared.command.Command.{Command}
use Rattle.edit_script.specs.declared.command.Command.TheVariants.{Change, Score, Alternatives, Quit}
use Rattle.rhythm_base.specs.declared.edit.Edit.{Edit}
use Rattle.rhythm_base.specs.declared.edit_fault.EditFault.{EditFault}
use Rattle.rhythm_base.specs.declared.edit_fault.EditFault.TheVariants.{Memory, NoDerivation}
use Rattle.tree_laws.specs.Alternatives.{AreAlternatives, AreBestOfBar}
use Rattle.rhythm_base.specs.EditRanges.{IsEditInRange}
use Rattle.edit_laws.specs.Edits.{cell_tests, first_refusal}
use Rattle.rhythm_base.specs.Forest.{Tree}
use Rattle.rhythm_base.specs.Leaves.{soundings}
use Rattle.rhythm_base.specs.Performance.{IsWellFormed, Performance}
use Rattle.edit_laws.specs.Reached.{AreReached}
use Rattle.edit_script.specs.Replies.{alternatives_text, long_score_text, refused_text, score_text}
use Rattle.rhythm_base.specs.Grammar.{Grammar}
use Rattle.script_laws.specs.Script.{Answers, IsLineStep, outcome_text, shown_alternative}
use Rattle.edit_laws.specs.EditOutcomes.{EditOutcome, IsMade, IsOutcome, IsRefused, made, refused}
use Rattle.edit_script.specs.ScriptLines.{SaysCommand, script_words}
use Rattle.rhythm_base.specs.Voices.{HasDerivation, IsCostOf, IsDeadVoice, IsLeastCost, voice_bars, notes_of_voice}
use Rattle.edit_script.proofs.CommandWords.{edit_in_range, one_command}
use Rattle.performance_laws.proofs.OneChords.{one_chords}
use Rattle.script_laws.specs.Laws.{HasOneScoreAtMost}
use Rattle.script_laws.specs.OneAnswers.{AnswersOfEditsAreOne}
use Rattle.edit_laws.proofs.Edited.{edited_formed}
use Rattle.performance_laws.proofs.OneVoices.{cost_has}

-- the performance after a command that was said is well formed
module _ (g : Grammar) (S : Performance → Result (List ℕ) ℕ → Type 0) (p : Performance) (formed : IsWellFormed p) where
  outcome_formed : (edit : Edit) (outcome : EditOutcome) (next : Performance) → IsEditInRange edit → IsOutcome g p edit outcome next → IsWellFormed next
  outcome_formed edit (refused fault) next range (is, stays) = subst IsWellFormed (sym stays) formed
  outcome_formed edit (made built cost) next range (cells, is, count) = edited_formed p next edit formed range is.made

  answer_formed : (command : Command) (line reply : List ℕ) (next : Performance) → SaysCommand line command → Answers S g p command reply next → IsWellFormed next
  answer_formed (Change edit) line reply next says (outcome, is, text) = outcome_formed edit outcome next (edit_in_range edit (script_words line) says) is
  answer_formed Score line reply next says answer = subst IsWellFormed (sym answer.0) formed
  answer_formed (Alternatives channel bar count) line reply next says answer = subst IsWellFormed (sym answer.0) formed
  answer_formed Quit line reply next says answer = subst IsWellFormed (sym answer.0) formed

  pub step_formed : (line reply : List ℕ) (next : Performance) → IsLineStep S g p line reply next → IsWellFormed next
  step_formed line reply next (inl (command, says, answer)) = answer_formed command line reply next says answer
  step_formed line reply next (inr (inl (nothing, text, stays))) = subst IsWellFormed (sym stays) formed
  step_formed line reply next (inr (inr (may, text, stays))) = subst IsWellFormed (sym stays) formed

-- each voice of a performance that has a cost has a derivation
voice_has : (g : Grammar) (p : Performance) (channel cost : ℕ) → IsLeastCost g p channel cost → HasDerivation g p channel
voice_has g p channel cost is = (is.chords, is.trees, is.starts, is.are_chords, is.least.fits)

-- an edit has one outcome
module _ (g : Grammar) (p : Performance) (ones : AnswersOfEditsAreOne g) (formed : IsWellFormed p) (edit : Edit) (range : IsEditInRange edit) where
  one_refusal : (fault fault' : EditFault) → IsRefused g p edit fault → IsRefused g p edit fault' → fault ≡ fault'
  one_refusal fault fault' (inl is) (inl is') = cc
  one_refusal fault fault' (inl is) (inr (q, channel, bar, done, dead, named)) = absurd (cc)
  one_refusal fault fault' (inr (q, channel, bar, done, dead, named)) (inl is') = absurd (cc)
  one_refusal fault fault' (inr (q, channel, bar, done, dead, named)) (inr (q', channel', bar', done', dead', named')) =
      let same : q' ≡ q = cc in
      let one = ones.dead q channel bar channel' bar' (edited_formed p q edit formed range done) dead
      (subst (λ (r : Performance). IsDeadVoice g r channel' bar') same dead') in
      named ∙ ap₂ NoDerivation one.0 one.1 ∙ sym named'

  not_both : (fault : EditFault) (next : Performance) (cells : List (ℕ × ℕ)) (cost : ℕ) → IsRefused g p edit fault → IsMade g p edit next cells cost → ⊥
  not_both fault next cells cost (inl is) is' = let done = is'.made in absurd (cc)
  not_both fault next cells cost (inr (q, channel, bar, done, dead, named)) is' =
      let is = is'.made in
      let same : next ≡ q = cc in
      let costs : IsCostOf g q cost = subst (λ (r : Performance). IsCostOf g r cost) same is'.costs in
      ones.none q channel bar (edited_formed p q edit formed range done) dead (cost_has g q q.channels cost channel costs dead.voice)

  one_outcome : (o o' : EditOutcome) (next next' : Performance) → IsOutcome g p edit o next → IsOutcome g p edit o' next' → (o ≡ o') × (next ≡ next')
  one_outcome (refused fault) (refused fault') next next' (is, stays) (is', stays') = (ap refused (one_refusal fault fault' is is'), stays ∙ sym stays')
  one_outcome (refused fault) (made built cost) next next' (is, stays) (cells', is', count') = absurd (not_both fault next' cells' cost is is')
  one_outcome (made built cost) (refused fault) next next' (cells, is, count) (is', stays') = absurd (not_both fault next cells cost is' is)
  one_outcome (made built cost) (made built' cost') next next' (cells, is, count) (cells', is', count') =
      let done = is.made in
      let done' = is'.made in
      let same : next' ≡ next = cc in
      let after = edited_formed p next edit formed range done in
      let reached = ones.reached p next cells cells' formed after is.reaches (subst (λ (q : Performance). AreReached g p q cells') same is'.reaches) in
      let costs = ones.costs next cost cost' after is.costs (subst (λ (q : Performance). IsCostOf g q cost') same is'.costs) in
      (ap₂ made (count ∙ ap length reached ∙ sym count') costs, sym same)

-- a command has one answer, and a line
module _ (g : Grammar) (S : Performance → Result (List ℕ) ℕ → Type 0) (p : Performance) (ones : AnswersOfEditsAreOne g) (score : HasOneScoreAtMost S)
    (formed : IsWellFormed p) where
  abbrev Scored : List ℕ → Type 0
  Scored reply = ((text : List ℕ) × S p (Ok text) × (reply ≡ score_text text)) ⊎ ((number : ℕ) × S p (Err number) × (reply ≡ long_score_text number))

  one_score : (reply reply' : List ℕ) → Scored reply → Scored reply' → reply ≡ reply'
  one_score reply reply' (inl (text, is, said)) (inl (text', is', said')) =
      let one = score p (Ok text) (Ok text') formed is is' in let same : text ≡ text' = cc in said ∙ ap score_text same ∙ sym said'
  one_score reply reply' (inl (text, is, said)) (inr (number', is', said')) = let one = score p (Ok text) (Err number') formed is is' in absurd (cc)
  one_score reply reply' (inr (number, is, said)) (inl (text', is', said')) = let one = score p (Err number) (Ok text') formed is is' in absurd (cc)
  one_score reply reply' (inr (number, is, said)) (inr (number', is', said')) =
      let one = score p (Err number) (Err number') formed is is' in let same : number ≡ number' = cc in said ∙ ap long_score_text same ∙ sym said'

  one_list : (channel bar count : ℕ) (list list' : List (ℕ × Tree)) → AreBestOfBar g p channel bar count list → AreBestOfBar g p channel bar count list' → list ≡ list'
  one_list channel bar count list list' is is' =
      let same = one_chords p.tempos p.division g.window (notes_of_voice p channel) is'.chords is.chords is'.are_chords is.are_chords in
      ones.alternatives p channel bar count is.chords list list' formed is.are_chords is.best
      (subst (λ cs. AreAlternatives g (voice_bars g p channel) (soundings cs) bar count list') same is'.best)

  abbrev Listed : ℕ → ℕ → ℕ → List ℕ → Type 0
  Listed channel bar count reply =
      ((fault : EditFault) × (first_refusal (cell_tests p channel bar) ≡ Some fault) × (reply ≡ refused_text fault))
      ⊎ ((list : List (ℕ × Tree)) × (first_refusal (cell_tests p channel bar) ≡ None) × AreBestOfBar g p channel bar count list × (reply ≡ alternatives_text (map shown_alternative list)))

  one_listed : (channel bar count : ℕ) (reply reply' : List ℕ) → Listed channel bar count reply → Listed channel bar count reply' → reply ≡ reply'
  one_listed channel bar count reply reply' (inl (fault, is, said)) (inl (fault', is', said')) =
      let same : fault ≡ fault' = cc in said ∙ ap refused_text same ∙ sym said'
  one_listed channel bar count reply reply' (inl (fault, is, said)) (inr (list, is', best, said')) = absurd (cc)
  one_listed channel bar count reply reply' (inr (list, is, best, said)) (inl (fault, is', said')) = absurd (cc)
  one_listed channel bar count reply reply' (inr (list, is, best, said)) (inr (list', is', best', said')) =
      said ∙ ap (λ l. alternatives_text (map shown_alternative l)) (one_list channel bar count list list' best best') ∙ sym said'

  one_answer : (command : Command) (line reply reply' : List ℕ) (next next' : Performance) → SaysCommand line command
      → Answers S g p command reply next → Answers S g p command reply' next' → (reply ≡ reply') × (next ≡ next')
  one_answer (Change edit) line reply reply' next next' says (o, is, text) (o', is', text') =
      let same = one_outcome g p ones formed edit (edit_in_range edit (script_words line) says) o o' next next' is is' in
      (text ∙ ap outcome_text same.0 ∙ sym text', same.1)
  one_answer Score line reply reply' next next' says (stays, scored) (stays', scored') = (one_score reply reply' scored scored', stays ∙ sym stays')
  one_answer (Alternatives channel bar count) line reply reply' next next' says (stays, listed) (stays', listed') =
      (one_listed channel bar count reply reply' listed listed', stays ∙ sym stays')
  one_answer Quit line reply reply' next next' says (stays, said) (stays', said') = (said ∙ sym said', stays ∙ sym stays')

  pub one_step : (line reply reply' : List ℕ) (next next' : Performance) → IsLineStep S g p line reply next → IsLineStep S g p line reply' next'
      → reply ≢ refused_text Memory → reply' ≢ refused_text Memory → (reply ≡ reply') × (next ≡ next')
  one_step line reply reply' next next' (inl (command, says, answer)) (inl (other, says', answer')) some some' =
      let same = one_command line other command says' says in
      one_answer command line reply reply' next next' says answer (subst (λ (c : Command). Answers S g p c reply' next') same answer')
  one_step line reply reply' next next' (inl (command, says, answer)) (inr (inl (nothing, said', stays'))) some some' = absurd (nothing command says)
  one_step line reply reply' next next' (inr (inl (nothing, said, stays))) (inl (command, says', answer')) some some' = absurd (nothing command says')
  one_step line reply reply' next next' (inr (inl (nothing, said, stays))) (inr (inl (nothing', said', stays'))) some some' =
      (said ∙ sym said', stays ∙ sym stays')
  one_step line reply reply' next next' (inr (inr (may, said, stays))) other some some' = absurd (some said)
  one_step line reply reply' next next' one (inr (inr (may, said', stays'))) some some' = absurd (some' said')
