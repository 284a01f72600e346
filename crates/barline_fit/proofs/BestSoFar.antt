-- The best of the ticks that were tried so far, and one more.
use Rattle.std.proofs.Common.{◌≡◌, ℕ, zero, suc, ◌<◌, ◌≤◌, List, [], ◌∷◌, ◌++◌, refl, sym, subst, ◌∙◌, arith, ◌⊎◌, inl, inr, Option, Some, None, Ok}
use Rattle.std.specs.Prelude.{All, Contains}
use Rattle.std.proofs.lemmas.Bool.{cases_lt}
use Rattle.std.proofs.lemmas.List.Elements.{All-append, Contains-append_cases, Contains-append_left, Contains-append_right}
use Rattle.barline_fit.specs.Fitted.{IsAcceptedAt, IsFitted, IsRefusedAt, IsTriedAt}
use Rattle.barline_fit.specs.declared.fitted.Fitted.{Fitted}
use Rattle.rhythm_base.specs.Grammar.{Grammar}
use Rattle.rhythm_base.specs.Performance.{Performance}
use Rattle.rhythm_base.specs.Voices.{IsCostOf}
use Rattle.performance_laws.proofs.OneVoices.{one_cost_of}
use Rattle.rhythm_base.proofs.OrderedLists.{all_cons}

-- the edit is refused at each of these ticks, and accepted at none
pub record AreRefused (g : Grammar) (p : Performance) (bar : ℕ) (ticks : List ℕ) : Type 0 where
  pub refused : All (IsRefusedAt g p bar) ticks
  pub never : (tick cost : ℕ) → Contains ticks tick → IsAcceptedAt g p bar tick cost → ⊥

-- the fitted tick of those that were tried, or none where the edit is refused at all of them
abbrev pub IsBestSoFar : Grammar → Performance → ℕ → List ℕ → Option Fitted → Type 0
IsBestSoFar g p bar ticks None = AreRefused g p bar ticks
IsBestSoFar g p bar ticks (Some x) = IsFitted g p bar ticks x

-- ---- one cost

-- a barline at a tick costs one thing
pub one_accepted : (g : Grammar) (p : Performance) (bar tick a b : ℕ) → IsAcceptedAt g p bar tick a → IsAcceptedAt g p bar tick b → a ≡ b
one_accepted g p bar tick a b h k =
    let same : Ok k.next ≡ Ok h.next = sym k.made ∙ h.made in
    let next : k.next ≡ h.next = cc in
    one_cost_of g h.next a b h.costs (subst (λ (q : Performance). IsCostOf g q b) next k.costs)

-- ---- one more tick

only : (t tick : ℕ) → Contains (tick ∷ []) t → t ≡ tick
only t tick (zero, lt, is) = sym is
only t tick (suc k, lt, is) = absurd (omega (arith, lt))

module _ (g : Grammar) (p : Performance) (bar : ℕ) (ticks : List ℕ) (tick : ℕ) where
  itself : Contains (ticks ++ tick ∷ []) tick
  itself = Contains-append_right ticks (tick ∷ []) tick (0, omega arith, refl)

  -- what holds of the costs at the ticks before, and of that at the last one, holds of all
  each_cost : (P : ℕ → ℕ → Type 0) → ((t cost : ℕ) → Contains ticks t → IsAcceptedAt g p bar t cost → P t cost) → ((cost : ℕ) → IsAcceptedAt g p bar tick cost → P tick cost)
      → (t cost : ℕ) → Contains (ticks ++ tick ∷ []) t → IsAcceptedAt g p bar t cost → P t cost
  each_cost P before last t cost there accepted =
      elim (Contains-append_cases ticks (tick ∷ []) t there) [
        | inl early ↦ before t cost early accepted
        | inr late ↦
            let same = only t tick late in
            subst (λ u. P u cost) (sym same) (last cost (subst (λ u. IsAcceptedAt g p bar u cost) same accepted))
      ]

  pub refused_more : (best : Option Fitted) → IsBestSoFar g p bar ticks best → IsTriedAt g p bar tick None → IsBestSoFar g p bar (ticks ++ tick ∷ []) best
  refused_more None h (refused, never) = record {
    refused = All-append (IsRefusedAt g p bar) ticks (tick ∷ []) h.refused (all_cons (IsRefusedAt g p bar) tick [] refused (λ k d lt. absurd (omega (arith, lt))));
    never = each_cost (λ t cost. ⊥) h.never never;
  }
  refused_more (Some x) h (refused, never) = record {
    candidate = Contains-append_left ticks (tick ∷ []) x.tick h.candidate;
    accepted = h.accepted;
    least = each_cost (λ t cost. (x.cost < cost) ⊎ ((x.cost ≡ cost) × (x.tick ≤ t))) h.least (λ cost accepted. absurd (never cost accepted));
  }

  pub first_accepted : (cost : ℕ) → IsBestSoFar g p bar ticks None → IsTriedAt g p bar tick (Some cost)
      → IsBestSoFar g p bar (ticks ++ tick ∷ []) (Some (record { tick = tick; cost = cost }))
  first_accepted cost h accepted = record {
    candidate = itself;
    accepted = accepted;
    least = each_cost (λ t c. (cost < c) ⊎ ((cost ≡ c) × (tick ≤ t))) (λ t c there at. absurd (h.never t c there at)) (λ c at. inr (one_accepted g p bar tick cost c accepted at, omega arith));
  }

  pub no_cheaper : (x : Fitted) (cost : ℕ) → IsFitted g p bar ticks x → ((t : ℕ) → Contains ticks t → t < tick) → IsTriedAt g p bar tick (Some cost) → x.cost ≤ cost
      → IsFitted g p bar (ticks ++ tick ∷ []) x
  no_cheaper x cost h later accepted le = record {
    candidate = Contains-append_left ticks (tick ∷ []) x.tick h.candidate;
    accepted = h.accepted;
    least = each_cost (λ t c. (x.cost < c) ⊎ ((x.cost ≡ c) × (x.tick ≤ t))) h.least last;
  }
    where
      before : x.tick < tick
      before = later x.tick h.candidate

      last : (c : ℕ) → IsAcceptedAt g p bar tick c → (x.cost < c) ⊎ ((x.cost ≡ c) × (x.tick ≤ tick))
      last c at =
          let same = one_accepted g p bar tick cost c accepted at in
          elim (cases_lt x.cost c) [ inl less ↦ inl less | inr level ↦ inr (omega (arith, same, le, level), omega (arith, before)) ]

  pub cheaper : (x : Fitted) (cost : ℕ) → IsFitted g p bar ticks x → IsTriedAt g p bar tick (Some cost) → cost < x.cost
      → IsFitted g p bar (ticks ++ tick ∷ []) (record { tick = tick; cost = cost })
  cheaper x cost h accepted less = record {
    candidate = itself;
    accepted = accepted;
    least = each_cost (λ t c. (cost < c) ⊎ ((cost ≡ c) × (tick ≤ t))) before (λ c at. inr (one_accepted g p bar tick cost c accepted at, omega arith));
  }
    where
      before : (t c : ℕ) → Contains ticks t → IsAcceptedAt g p bar t c → (cost < c) ⊎ ((cost ≡ c) × (tick ≤ t))
      before t c there at = elim (h.least t c there at) [ inl more ↦ inl (omega (arith, less, more)) | inr level ↦ inl (omega (arith, less, level.0)) ]
