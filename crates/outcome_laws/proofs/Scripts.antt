-- Edits are accepted in turn, or are not.
use Rattle.std.proofs.Common.{◌≡◌, ◌≤◌, ◌∙◌, inl, inr, List, [], ◌∷◌, refl, sym, subst, Result, Ok, Err}
use Rattle.std.specs.Prelude.{All}
use Rattle.answer_laws.proofs.Decisions.{Decided, decided_both, decided_most, decided_true}
use Rattle.barline_follow.specs.Script.{Accepts, Leads}
use Rattle.edit_laws.specs.Edits.{edited}
use Rattle.rhythm_base.specs.declared.edit.Edit.{Edit}
use Rattle.rhythm_base.specs.declared.edit.Edit.TheVariants.{Add, Drop, Move, Barline, Pin, Unpin, AddBar, DropBar}
use Rattle.rhythm_base.specs.declared.edit_fault.EditFault.{EditFault}
use Rattle.rhythm_base.specs.declared.limits.TheConstants.{LATEST_TICK, MOST_BARS}
use Rattle.rhythm_base.specs.EditRanges.{IsEditInRange}
use Rattle.rhythm_base.specs.Grammar.{Grammar}
use Rattle.rhythm_base.specs.Performance.{Performance}
use Rattle.rhythm_base.specs.Shapes.{is_shape}
use Rattle.rhythm_base.specs.Voices.{HasDerivation}
use Rattle.outcome_laws.proofs.Decided.{decided_every, decided_four, decided_less, decided_three}
use Rattle.outcome_laws.proofs.FiniteCosts.{decided_derivation}

decided_range : (edit : Edit) → Decided (IsEditInRange edit)
decided_range (Add channel key onset end) = decided_four (decided_less channel 16) (decided_less key 128) (decided_most onset LATEST_TICK) (decided_most end LATEST_TICK)
decided_range (Drop channel key onset) = decided_three (decided_less channel 16) (decided_less key 128) (decided_most onset LATEST_TICK)
decided_range (Move channel key onset to) = decided_four (decided_less channel 16) (decided_less key 128) (decided_most onset LATEST_TICK) (decided_most to LATEST_TICK)
decided_range (Barline bar tick) = decided_both (decided_most bar MOST_BARS) (decided_most tick LATEST_TICK)
decided_range (Pin channel bar shape) = decided_three (decided_less channel 16) (decided_most bar MOST_BARS) (decided_true (is_shape shape))
decided_range (Unpin channel bar) = decided_both (decided_less channel 16) (decided_most bar MOST_BARS)
decided_range AddBar = inl tt
decided_range DropBar = inl tt

module _ (g : Grammar) (some : 1 ≤ g.resolution) where
  same_next : (q r : Performance) → ◌≡◌ {A = Result Performance EditFault} (Ok q) (Ok r) → q ≡ r
  same_next q r e = cc

  -- an edit is accepted, or is not
  accepted_or_not : (p : Performance) (edit : Edit) → Decided ((next : Performance) × Accepts g p edit next)
  accepted_or_not p edit = go (decided_range edit) (edited p edit) refl
    where
      by_voices : (q : Performance) → IsEditInRange edit → edited p edit ≡ Ok q → Decided (All (HasDerivation g q) q.channels) → Decided ((next : Performance) × Accepts g p edit next)
      by_voices q range is (inl all) = inl (q, (range, is, all))
      by_voices q range is (inr never) =
          inr (λ h. never (subst (λ (r : Performance). All (HasDerivation g r) r.channels) (same_next h.0 q (sym h.1.1 ∙ is)) h.1.2))

      go : Decided (IsEditInRange edit) → (r : Result Performance EditFault) → edited p edit ≡ r → Decided ((next : Performance) × Accepts g p edit next)
      go (inr never) r is = inr (λ h. never h.1.0)
      go (inl range) (Err fault) is = inr (λ h. let made = h.1.1 in absurd (cc))
      go (inl range) (Ok q) is = by_voices q range is (decided_every (HasDerivation g q) (λ channel. decided_derivation g some q channel) q.channels)

  pub leads_or_not : (p : Performance) (edits : List Edit) → Decided ((q : Performance) × Leads g p edits q)
  leads_or_not p [] = inl (p, refl)
  leads_or_not p (edit ∷ edits) = go (accepted_or_not p edit) (λ next. leads_or_not next edits)
    where
      same : (q r : Performance) → Accepts g p edit q → Accepts g p edit r → q ≡ r
      same q r h k = same_next q r (sym h.1 ∙ k.1)

      by_rest : (next : Performance) → Accepts g p edit next → Decided ((q : Performance) × Leads g next edits q) → Decided ((q : Performance) × Leads g p (edit ∷ edits) q)
      by_rest next own (inl rest) = inl (rest.0, (next, own, rest.1))
      by_rest next own (inr never) = inr (λ h. never (h.0, subst (λ (r : Performance). Leads g r edits h.0) (same h.1.0 next h.1.1 own) h.1.2))

      go : Decided ((next : Performance) × Accepts g p edit next) → ((next : Performance) → Decided ((q : Performance) × Leads g next edits q))
          → Decided ((q : Performance) × Leads g p (edit ∷ edits) q)
      go (inr never) rest = inr (λ h. never (h.1.0, h.1.1))
      go (inl own) rest = by_rest own.0 own.1 (rest own.0)
