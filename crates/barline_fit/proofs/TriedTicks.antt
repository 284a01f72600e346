-- What is known after the first ticks are tried.
use Rattle.std.proofs.Common.{◌≡◌, ℕ, ◌+◌, ◌-◌, ◌*◌, ◌<◌, ◌≤◌, List, [], ◌∷◌, ◌++◌, refl, sym, ap, ◌∙◌, subst, arith, inl, inr, Option, Some, None}
use Rattle.std.specs.Prelude.{Contains}
use Rattle.std.proofs.lemmas.Bool.{cases_lt}
use Rattle.std.proofs.lemmas.List.Elements.{All-nil}
use Rattle.barline_fit.specs.Builds.{AreReachedAt, AreWithinReach}
use Rattle.barline_fit.specs.Candidates.{stepped}
use Rattle.barline_fit.specs.Fitted.{IsAcceptedAt, IsFitted, IsRefusedAt, IsTriedAt}
use Rattle.barline_fit.specs.declared.fitted.Fitted.{Fitted}
use Rattle.barline_fit.proofs.BestSoFar.{IsBestSoFar, cheaper, first_accepted, no_cheaper, refused_more}
use Rattle.barline_fit.proofs.Reaching.{reached_append, reached_none, within_more}
use Rattle.barline_fit.proofs.Steps.{later_step, step_of, stepped_more, stepped_split}
use Rattle.edit_session.specs.Prepared.{RisesBy}
use Rattle.rhythm_base.specs.Grammar.{Grammar}
use Rattle.rhythm_base.specs.Performance.{Performance}

module _ (g : Grammar) (p : Performance) (bar low step : ℕ) where
  -- so many ticks are tried: the best of them, and the cells that were built
  pub record AreTried (count : ℕ) (best : Option Fitted) (old new : ℕ) : Type 0 where
    pub best_is : IsBestSoFar g p bar (stepped low step count) best
    pub built : RisesBy old new (AreReachedAt g p bar (stepped low step count))

  pub none_tried : (old : ℕ) → AreTried 0 None old old
  none_tried old = record {
    best_is = record { refused = All-nil (IsRefusedAt g p bar); never = λ tick cost (k, lt, is) accepted. absurd (omega (arith, lt)) };
    built = (0, omega arith, reached_none g p bar);
  }

  more_built : (count old mid new : ℕ) → RisesBy old mid (AreReachedAt g p bar (stepped low step count)) → RisesBy mid new (AreReachedAt g p bar ((low + count * step) ∷ []))
      → RisesBy old new (AreReachedAt g p bar (stepped low step (count + 1)))
  more_built count old mid new (m, rose, first) (n, rises, last) =
      let all = reached_append g p bar (stepped low step count) ((low + count * step) ∷ []) m n first last in
      (m + n, omega (arith, rose, rises), subst (λ (ticks : List ℕ). AreReachedAt g p bar ticks (m + n)) (sym (stepped_more low step count)) all)

  more_best : (count : ℕ) (best : Option Fitted) → IsBestSoFar g p bar (stepped low step count ++ (low + count * step) ∷ []) best → IsBestSoFar g p bar (stepped low step (count + 1)) best
  more_best count best h = subst (λ (ticks : List ℕ). IsBestSoFar g p bar ticks best) (sym (stepped_more low step count)) h

  pub tried_refused : (count : ℕ) (best : Option Fitted) (old mid new : ℕ) → AreTried count best old mid → IsTriedAt g p bar (low + count * step) None
      → RisesBy mid new (AreReachedAt g p bar ((low + count * step) ∷ [])) → AreTried (count + 1) best old new
  tried_refused count best old mid new h tried rises = record {
    best_is = more_best count best (refused_more g p bar (stepped low step count) (low + count * step) best h.best_is tried);
    built = more_built count old mid new h.built rises;
  }

  later_than : (count : ℕ) → 1 ≤ step → (t : ℕ) → Contains (stepped low step count) t → t < low + count * step
  later_than count some t there =
      let one = step_of low step count t there in
      let less = later_step low step one.0 count some one.1 in
      omega (arith, one.2, less)

  -- of the best so far and the tick that was tried last the better one is kept
  pub record IsBetter (best : Option Fitted) (later x : Fitted) : Type 0 where
    pub first : best ≡ None → x ≡ later
    pub kept : (y : Fitted) → best ≡ Some y → y.cost ≤ later.cost → x ≡ y
    pub cheaper : (y : Fitted) → best ≡ Some y → later.cost < y.cost → x ≡ later

  pub tried_accepted : (count : ℕ) (best : Option Fitted) (old mid new cost : ℕ) (x : Fitted) → 1 ≤ step → AreTried count best old mid
      → IsAcceptedAt g p bar (low + count * step) cost → IsBetter best (record { tick = low + count * step; cost = cost }) x
      → RisesBy mid new (AreReachedAt g p bar ((low + count * step) ∷ [])) → AreTried (count + 1) (Some x) old new
  tried_accepted count best old mid new cost x some h accepted better rises = record {
    best_is = more_best count (Some x) (by best refl h.best_is);
    built = more_built count old mid new h.built rises;
  }
    where
      all : List ℕ
      all = stepped low step count ++ (low + count * step) ∷ []

      by : (b : Option Fitted) → best ≡ b → IsBestSoFar g p bar (stepped low step count) b → IsFitted g p bar all x
      by None is first = subst (IsFitted g p bar all) (sym (better.first is)) (first_accepted g p bar (stepped low step count) (low + count * step) cost first accepted)
      by (Some y) is fitted = elim (cases_lt cost y.cost) [
        | inl less ↦
            subst (IsFitted g p bar all) (sym (better.cheaper y is less)) (cheaper g p bar (stepped low step count) (low + count * step) y cost fitted accepted less)
        | inr le ↦
            subst (IsFitted g p bar all) (sym (better.kept y is le))
            (no_cheaper g p bar (stepped low step count) (low + count * step) y cost fitted (later_than count some) accepted le)
      ]

  -- there was not enough memory at one of the ticks
  pub tried_within : (count total old mid new : ℕ) (best : Option Fitted) → count < total → AreTried count best old mid
      → RisesBy mid new (AreWithinReach g p bar ((low + count * step) ∷ [])) → RisesBy old new (AreWithinReach g p bar (stepped low step total))
  tried_within count total old mid new best lt h (n, rises, within) =
      let before = h.built in
      let rose = before.1 in
      let split = stepped_split low step count (total - (count + 1)) in
      let is : stepped low step total ≡ stepped low step count ++ (low + count * step) ∷ split.0 = ap (stepped low step) (omega (arith, lt)) ∙ split.1 in
      let most = within_more g p bar (stepped low step count) (low + count * step) split.0 before.0 n before.2 within in
      (before.0 + n, omega (arith, rises, rose), subst (λ (ticks : List ℕ). AreWithinReach g p bar ticks (before.0 + n)) (sym is) most)

  pub same_tried : (count total : ℕ) (best : Option Fitted) (old new : ℕ) → count ≡ total → AreTried count best old new → AreTried total best old new
  same_tried count total best old new same h = subst (λ (n : ℕ). AreTried n best old new) same h
