-- One edit of a drill: what it leaves is well formed, and is decided.
use Rattle.std.proofs.Common.{◌≡◌, ℕ, zero, suc, ◌+◌, ◌≤◌, inl, inr, List, length, sym, ap, ◌∙◌, subst, Some, Ok}
use Rattle.rhythm_base.specs.declared.edit.Edit.{Edit}
use Rattle.rhythm_base.specs.declared.edit_fault.EditFault.{EditFault}
use Rattle.edit_laws.specs.Edits.{edited}
use Rattle.rhythm_base.specs.Grammar.{Grammar}
use Rattle.rhythm_base.specs.Performance.{IsWellFormed, Performance}
use Rattle.edit_laws.specs.Reached.{AreReached}
use Rattle.edit_laws.specs.EditOutcomes.{EditOutcome, IsMade, IsOutcome, IsRefused, made, refused}
use Rattle.rhythm_base.specs.Voices.{IsCostOf}
use Rattle.performance_laws.proofs.OneVoices.{dead_has_none, cost_has}
use Rattle.edit_laws.proofs.OneReached.{one_reached}
use Rattle.edit_laws.proofs.Edited.{edited_formed}
use Rattle.rhythm_gen.specs.DrillEdit.{drill_edit}
use Rattle.drill_run.specs.Drill.{Drilled, IsCounted, IsDrilledTo, IsDrillStep}
use Rattle.drill_run.proofs.EditKinds.{drill_range, kind_of}

-- ---- well formed

-- an edit of a drill that is made leaves a well-formed performance
pub kept_formed : (number e : ℕ) (p q : Performance) (edit : Edit) → IsWellFormed p → drill_edit number e p ≡ Some edit → edited p edit ≡ Ok q → IsWellFormed q
kept_formed number e p q edit formed is done = edited_formed p q edit formed (drill_range e p q edit formed (kind_of e p edit number is) done) done

pub step_formed : (g : Grammar) (number e : ℕ) (old new : Drilled) (besides : ℕ) → IsWellFormed old.performance → IsDrillStep g number e old new besides → IsWellFormed new.performance
step_formed g number e old new besides formed step = by step.outcome step.comes
  where
    by : (outcome : EditOutcome) → IsOutcome g old.performance step.edit outcome new.performance → IsWellFormed new.performance
    by (refused fault) (is, stays) = subst IsWellFormed (sym stays) formed
    by (made reached cost) (cells, is, count) = kept_formed number e old.performance new.performance step.edit formed step.is is.made

pub drilled_formed : (g : Grammar) (number : ℕ) (p : Performance) → IsWellFormed p → (e : ℕ) (last : Drilled) (besides : ℕ) → IsDrilledTo g number p e last besides
    → IsWellFormed last.performance
unfolding IsDrilledTo
drilled_formed g number p formed zero last besides h = subst (λ (d : Drilled). IsWellFormed d.performance) (sym h.0) formed
drilled_formed g number p formed (suc e) last besides (before, m, n, first, step, sum) =
    step_formed g number e before last n (drilled_formed g number p formed e before m first) step

-- ---- one outcome

-- both are refused, or both are made and reach as many cells
abbrev pub AreAlike : EditOutcome → EditOutcome → Type 0
AreAlike (refused fault) (refused fault') = Unit {0}
AreAlike (refused fault) (made reached cost) = ⊥
AreAlike (made reached cost) (refused fault) = ⊥
AreAlike (made reached cost) (made reached' cost') = reached ≡ reached'

module _ (g : Grammar) (p : Performance) (edit : Edit) (some : 1 ≤ g.resolution) (keeps : (q : Performance) → edited p edit ≡ Ok q → IsWellFormed q) where
  not_both : (fault : EditFault) (next : Performance) (cells : List (ℕ × ℕ)) (cost : ℕ) → IsRefused g p edit fault → IsMade g p edit next cells cost → ⊥
  not_both fault next cells cost (inl is) is' = let done = is'.made in absurd (cc)
  not_both fault next cells cost (inr (q, channel, bar, done, dead, named)) is' =
      let is = is'.made in
      let same : next ≡ q = cc in
      let costs : IsCostOf g q cost = subst (λ (r : Performance). IsCostOf g r cost) same is'.costs in
      dead_has_none g q some (keeps q done) channel bar dead (cost_has g q q.channels cost channel costs dead.voice)

  pub alike : (o o' : EditOutcome) (next next' : Performance) → IsOutcome g p edit o next → IsOutcome g p edit o' next' → (next ≡ next') × AreAlike o o'
  alike (refused fault) (refused fault') next next' (is, stays) (is', stays') = (stays ∙ sym stays', tt)
  alike (refused fault) (made reached cost) next next' (is, stays) (cells', is', count') = absurd (not_both fault next' cells' cost is is')
  alike (made reached cost) (refused fault) next next' (cells, is, count) (is', stays') = absurd (not_both fault next cells cost is' is)
  alike (made reached cost) (made reached' cost') next next' (cells, is, count) (cells', is', count') =
      let done = is.made in
      let done' = is'.made in
      let same : next' ≡ next = cc in
      let all = one_reached g p next cells cells' is.reaches (subst (λ (q : Performance). AreReached g p q cells') same is'.reaches) in
      (sym same, count ∙ ap length all ∙ sym count')

one_count : (o o' : EditOutcome) (old new new' : Drilled) → AreAlike o o' → IsCounted o old new → IsCounted o' old new' → (new.accepted ≡ new'.accepted) × (new.built ≡ new'.built)
one_count (refused fault) (refused fault') old new new' same h k = (h.0 ∙ sym k.0, h.1 ∙ sym k.1)
one_count (refused fault) (made reached cost) old new new' same h k = absurd same
one_count (made reached cost) (refused fault) old new new' same h k = absurd same
one_count (made reached cost) (made reached' cost') old new new' same h k = (h.0 ∙ sym k.0, h.1 ∙ ap (λ n. old.built + n) same ∙ sym k.1)

some_same : {X : Type 0} (a b : X) → Some a ≡ Some b → a ≡ b
some_same a b h = cc

-- an edit of a drill leaves one thing
pub one_step : (g : Grammar) (number e : ℕ) (old new new' : Drilled) (besides besides' : ℕ) → 1 ≤ g.resolution → IsWellFormed old.performance
    → IsDrillStep g number e old new besides → IsDrillStep g number e old new' besides' → new ≡ new'
one_step g number e old new new' besides besides' some formed h k =
    let edit : k.edit ≡ h.edit = some_same k.edit h.edit (sym k.is ∙ h.is) in
    let other = subst (λ (x : Edit). IsOutcome g old.performance x k.outcome new'.performance) edit k.comes in
    let same = alike g old.performance h.edit some (λ q done. kept_formed number e old.performance q h.edit formed h.is done) h.outcome k.outcome new.performance new'.performance h.comes other in
    let counts = one_count h.outcome k.outcome old new new' same.1 h.counts k.counts in
    λ i. record { performance = same.0 i; accepted = counts.0 i; built = counts.1 i }
