-- The search for barlines comes to a best list, or to none.
use Rattle.std.proofs.Common.{◌≡◌, ◌∙◌, ◌*◌, ◌≤◌, ℕ, zero, suc, inl, inr, Bool, true, false, List, [], ◌∷◌, length, refl, sym, Option, None}
use Rattle.std.specs.Prelude.{filter, take}
use Rattle.std.specs.List.{filter_map}
use Rattle.std.proofs.lemmas.Bool.{false≢true}
use Rattle.answer_laws.proofs.Decisions.{Decided, decided_most}
use Rattle.barline_follow.specs.declared.offers.Offer.{Offer}
use Rattle.barline_follow.specs.Bars.{is_closed, with_barlines}
use Rattle.barline_follow.specs.Barring.{Barring, barring_end, barring_value, best_of, is_below, last_length}
use Rattle.barline_follow.specs.HeadCost.{IsHeadCost}
use Rattle.barline_follow.specs.Offers.{AreOffers, proposals}
use Rattle.barline_follow.specs.Rounds.{AreLonger, ComeTo, Draft, Found, IsBest, IsFound, IsNextFront, IsRound, at_cost, going, going_on, lost, no_bars, rows, whole, whole_one}
use Rattle.rhythm_base.specs.Grammar.{Grammar}
use Rattle.rhythm_base.specs.Lists.{last_end}
use Rattle.rhythm_base.specs.Performance.{Performance}
use Rattle.rhythm_base.specs.Voices.{IsCostOf}
use Rattle.rhythm_base.specs.declared.limits.TheConstants.{LATEST_TICK}
use Rattle.outcome_laws.proofs.FiniteCosts.{IsTold, told_cost, told_head}
use Rattle.outcome_laws.proofs.LeastAtTicks.{some_first_least}
use Rattle.outcome_laws.proofs.Pages.{some_each}

module _ (g : Grammar) (p : Performance) (some : 1 ≤ g.resolution) where
  -- ---- what a list comes to

  module _ (d : Draft) where
    abbrev HasFound : Type 0
    HasFound = (f : Found) × IsFound g p d f

    open_found : is_closed p d.ticks ≡ false → last_end 0 d.ticks ≤ LATEST_TICK → IsTold (IsHeadCost g p d.ticks) → HasFound
    open_found ends early (inl told) = (going (at_cost d told.0), (told.0, record { open_end = ends; early = early; cost = told.1 }, refl))
    open_found ends early (inr never) = (lost, λ c. ((λ is. never c is.cost), λ is. false≢true (sym ends ∙ is.closed_end)))

    whole_found : is_closed p d.ticks ≡ true → last_end 0 d.ticks ≤ LATEST_TICK → IsTold (IsCostOf g (with_barlines p d.ticks)) → HasFound
    whole_found ends early (inl told) = (whole (at_cost d told.0), (told.0, record { closed_end = ends; early = early; cost = told.1 }, refl))
    whole_found ends early (inr never) = (lost, λ c. ((λ is. false≢true (sym is.open_end ∙ ends)), λ is. never c is.cost))

    some_found : HasFound
    some_found = go (is_closed p d.ticks) refl (decided_most (last_end 0 d.ticks) LATEST_TICK)
      where
        go : (b : Bool) → is_closed p d.ticks ≡ b → Decided (last_end 0 d.ticks ≤ LATEST_TICK) → HasFound
        go b ends (inr late) = (lost, λ c. ((λ is. late is.early), λ is. late is.early))
        go true ends (inl early) = whole_found ends early (told_cost g some (with_barlines p d.ticks))
        go false ends (inl early) = open_found ends early (told_head g some p d.ticks)

  -- ---- rounds

  some_offers : (i : ℕ) (b : Barring) → (offers : List Offer) × AreOffers g p i (last_length b.ticks) offers
  some_offers i b = some_first_least (λ (o : Offer). o.price) (λ o. o.ticks) (proposals g p i (last_length b.ticks))

  some_longer : (i : ℕ) (front : List Barring) → (drafts : List Draft) × AreLonger g p i front drafts
  some_longer i front =
      let offers = some_each (λ (b : Barring) own. AreOffers g p i (last_length b.ticks) own) (some_offers i) front in
      (rows front offers.0, record { offers = offers.0; are_offers = offers.1; are = refl })

  some_front : (best : Option Barring) (bs : List Barring) → (front : List Barring) × IsNextFront best bs front
  some_front best bs = let kept = some_first_least barring_value barring_end bs in (filter (is_below best) (take 24 kept.0), (kept.0, kept.1, refl))

  some_round : (i : ℕ) (front : List Barring) (best : Option Barring) → (next : List Barring) × (next_best : Option Barring) × IsRound g p i front best next next_best
  some_round i front best =
      let longer = some_longer i front in
      let found = some_each (IsFound g p) some_found longer.0 in
      let next_best : Option Barring = best_of best (filter_map whole_one found.0) in
      let next = some_front next_best (filter_map going_on found.0) in
      (next.0, next_best, record { drafts = longer.0; longer = longer.1; found = found.0; each = found.1; best_is = refl; next_is = next.1 })

  some_end : (rounds i : ℕ) (front : List Barring) (best : Option Barring) → (last : Option Barring) × ComeTo g p rounds i front best last
  some_end zero i front best = (best, refl)
  some_end (suc rounds) i [] best = (best, refl)
  some_end (suc rounds) i (b ∷ front) best =
      let round = some_round i (b ∷ front) best in
      let rest = some_end rounds (suc i) round.0 round.1 in
      (rest.0, (round.0, round.1, round.2, rest.1))

  pub some_best : (best : Option Barring) × IsBest g p best
  some_best = some_end (2 * length p.bars) 0 (no_bars ∷ []) None
