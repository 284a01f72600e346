-- Ticks have one best, and the edit at the fitted tick is made.
use Rattle.std.proofs.Common.{◌≡◌, ◌≢◌, ℕ, ◌<◌, ◌≤◌, List, refl, sym, ap, ◌∙◌, subst, arith, ◌⊎◌, inl, inr, Ok}
use Rattle.std.specs.Prelude.{All}
use Rattle.std.proofs.lemmas.List.Elements.{All-contains}
use Rattle.barline_fit.specs.Fitted.{IsAcceptedAt, IsFitFault, IsFitted, IsRefusedAt}
use Rattle.barline_fit.specs.Laws.{FittedBarlineIsMade, FittedTicksAreOne}
use Rattle.barline_fit.specs.declared.fit_fault.FitFault.{FitFault}
use Rattle.barline_fit.specs.declared.fit_fault.FitFault.TheVariants.{Memory, NoBar, NoCandidate}
use Rattle.barline_fit.specs.declared.fitted.Fitted.{Fitted}
use Rattle.barline_fit.proofs.Settable.{set_has_barline, set_in_range}
use Rattle.edit_laws.proofs.Edited.{edited_formed}
use Rattle.edit_laws.specs.Edits.{edited}
use Rattle.rhythm_base.specs.Grammar.{Grammar}
use Rattle.rhythm_base.specs.Performance.{IsWellFormed, Performance}
use Rattle.rhythm_base.specs.Readable.{IsReadable}
use Rattle.edit_laws.specs.EditOutcomes.{EditOutcome, IsOutcome, IsRefused, made, refused}
use Rattle.rhythm_base.specs.Voices.{HasDerivation, IsCostOf}
use Rattle.rhythm_base.specs.declared.edit.Edit.TheVariants.{Barline}
use Rattle.rhythm_base.specs.declared.edit_fault.EditFault.{EditFault}
use Rattle.performance_laws.proofs.OneVoices.{dead_has_none, one_cost_of}

-- ---- one tick

one_tick : (g : Grammar) (p : Performance) (bar : ℕ) (ticks : List ℕ) (x y : Fitted) → IsFitted g p bar ticks x → IsFitted g p bar ticks y → x ≡ y
one_tick g p bar ticks x y h k =
    let here = h.least y.tick y.cost k.candidate k.accepted in
    let there = k.least x.tick x.cost h.candidate h.accepted in
    let both = same here there in
    λ i. record { tick = both.0 i; cost = both.1 i }
  where
    same : (x.cost < y.cost) ⊎ ((x.cost ≡ y.cost) × (x.tick ≤ y.tick)) → (y.cost < x.cost) ⊎ ((y.cost ≡ x.cost) × (y.tick ≤ x.tick)) → (x.tick ≡ y.tick) × (x.cost ≡ y.cost)
    same (inl less) (inl more) = absurd (omega (arith, less, more))
    same (inl less) (inr level) = absurd (omega (arith, less, level.0))
    same (inr level) (inl more) = absurd (omega (arith, level.0, more))
    same (inr level) (inr too) = (omega (arith, level.1, too.1), level.0)

one_fault : (g : Grammar) (p : Performance) (bar : ℕ) (ticks : List ℕ) (a b : FitFault) → a ≢ Memory → b ≢ Memory → IsFitFault g p bar ticks a → IsFitFault g p bar ticks b → a ≡ b
one_fault g p bar ticks (NoBar m) (NoBar n) some other h k = ap NoBar (h.0 ∙ sym k.0)
one_fault g p bar ticks (NoBar m) NoCandidate some other h k = absurd (h.1 k.0)
one_fault g p bar ticks (NoBar m) Memory some other h k = absurd (other refl)
one_fault g p bar ticks NoCandidate (NoBar n) some other h k = absurd (k.1 h.0)
one_fault g p bar ticks NoCandidate NoCandidate some other h k = refl
one_fault g p bar ticks NoCandidate Memory some other h k = absurd (other refl)
one_fault g p bar ticks Memory b some other h k = absurd (some refl)

-- ---- accepted or refused

module _ (g : Grammar) (p : Performance) (bar tick : ℕ) (some : 1 ≤ g.resolution) (formed : IsWellFormed p) where
  -- the performance with the barline there is well formed
  pub set_formed : (q : Performance) → edited p (Barline bar tick) ≡ Ok q → IsWellFormed q
  set_formed q is = edited_formed p q (Barline bar tick) formed (set_in_range p q bar tick formed is) is

  -- a barline that is accepted is not refused
  pub not_both : (cost : ℕ) (fault : EditFault) → IsAcceptedAt g p bar tick cost → IsRefused g p (Barline bar tick) fault → ⊥
  not_both cost fault h (inl is) = let done = h.made in absurd (cc)
  not_both cost fault h (inr (q, channel, rest, done, dead, named)) =
      let both : Ok h.next ≡ Ok q = sym h.made ∙ done in
      let same : h.next ≡ q = cc in
      let lives = subst (λ (r : Performance). All (HasDerivation g r) r.channels) same h.derivations in
      dead_has_none g q some (set_formed q done) channel rest dead (All-contains (HasDerivation g q) q.channels channel lives dead.voice)

-- the ticks have a best or a fault
not_best : (g : Grammar) (p : Performance) (bar : ℕ) (ticks : List ℕ) (x : Fitted) (a : FitFault) → IsReadable g → IsWellFormed p → a ≢ Memory
    → IsFitted g p bar ticks x → IsFitFault g p bar ticks a → ⊥
not_best g p bar ticks x (NoBar m) readable formed some h k = k.1 (set_has_barline p h.accepted.next bar x.tick h.accepted.made)
not_best g p bar ticks x NoCandidate readable formed some h k =
    let at = All-contains (IsRefusedAt g p bar) ticks x.tick k.1 h.candidate in
    not_both g p bar x.tick readable.ranges.some_unit formed x.cost at.fault h.accepted at.refused
not_best g p bar ticks x Memory readable formed some h k = some refl

pub ticks_one : FittedTicksAreOne
ticks_one = record { tick = one_tick; fault = one_fault; either = not_best }

-- ---- the edit at the fitted tick

module _ (g : Grammar) (p : Performance) (bar tick : ℕ) (some : 1 ≤ g.resolution) (formed : IsWellFormed p) where
  -- whatever becomes of an edit that is accepted, it is made, at its cost
  pub accepted_outcome : (next : Performance) (cost : ℕ) (outcome : EditOutcome) (h : IsAcceptedAt g p bar tick cost) → IsOutcome g p (Barline bar tick) outcome next
      → (reached : ℕ) × (outcome ≡ made reached cost) × (next ≡ h.next)
  accepted_outcome next cost (refused fault) h (is, stays) = absurd (not_both g p bar tick some formed cost fault h is)
  accepted_outcome next cost (made reached cost') h (cells, is, count) =
      let both : Ok next ≡ Ok h.next = sym is.made ∙ h.made in
      let same : next ≡ h.next = cc in
      let level = one_cost_of g h.next cost' cost (subst (λ (q : Performance). IsCostOf g q cost') same is.costs) h.costs in
      (reached, ap (made reached) level, same)

pub barline_made : FittedBarlineIsMade
barline_made g p next bar ticks x outcome readable formed fitted comes =
    let one = accepted_outcome g p bar x.tick readable.ranges.some_unit formed next x.cost outcome fitted.accepted comes in
    (one.0, one.1, subst (λ (q : Performance). All (HasDerivation g q) q.channels) (sym one.2) fitted.accepted.derivations)
