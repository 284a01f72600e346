-- Tests one after the other: what they come to is one, and a stage that follows each of them follows them in turn.
use Rattle.std.proofs.Common.{◌≡◌, ap, subst, inl, inr, Result, Ok, Err}
use Rattle.rhythm_app.specs.Outcome.{AreInTurn}
use Rattle.rhythm_app.specs.Stages.{Follows}
use Rattle.rhythm_app.specs.declared.stop.Stop.{Stop}
use Rattle.rhythm_app.proofs.Performing.{same_stop, not_stopped}

-- it comes to one value or to one stop
abbrev pub IsOne : {T : Type 0} → (Result T Stop → Type 0) → Type 0
IsOne {T} outcome = (r s : Result T Stop) → outcome r → outcome s → r ≡ s

same_value : {T : Type 0} (x y : T) → ◌≡◌ {A = Result T Stop} (Ok x) (Ok y) → x ≡ y
same_value x y h = cc

module _ {T U : Type 0} (first : Result T Stop → Type 0) (next : T → Result U Stop → Type 0) where
  pub in_turn_one : IsOne first → ((x : T) → first (Ok x) → IsOne (next x)) → IsOne (AreInTurn first next)
  in_turn_one one ones = go
    where
      follows : (x y : T) (r s : Result U Stop) → first (Ok x) → first (Ok y) → next x r → next y s → r ≡ s
      follows x y r s h k a b =
          let same : x ≡ y = same_value x y (one (Ok x) (Ok y) h k) in
          ones y k r s (subst (λ z. next z r) same a) b

      apart : (x : T) (s : Stop) → first (Ok x) → first (Err s) → ⊥
      apart x s h k = not_stopped x s (one (Ok x) (Err s) h k)

      go : (r s : Result U Stop) → AreInTurn first next r → AreInTurn first next s → r ≡ s
      go (Ok u) (Ok v) (x, h, a) (y, k, b) = follows x y (Ok u) (Ok v) h k a b
      go (Ok u) (Err t) (x, h, a) (inl k) = absurd (apart x t h k)
      go (Ok u) (Err t) (x, h, a) (inr (y, k, b)) = follows x y (Ok u) (Err t) h k a b
      go (Err s) (Ok v) (inl h) (y, k, b) = absurd (apart y s k h)
      go (Err s) (Ok v) (inr (x, h, a)) (y, k, b) = follows x y (Err s) (Ok v) h k a b
      go (Err s) (Err t) (inl h) (inl k) = ap (λ z. Err z) (same_stop {T = T} s t (one (Err s) (Err t) h k))
      go (Err s) (Err t) (inl h) (inr (y, k, b)) = absurd (apart y s k h)
      go (Err s) (Err t) (inr (x, h, a)) (inl k) = absurd (apart x t h k)
      go (Err s) (Err t) (inr (x, h, a)) (inr (y, k, b)) = follows x y (Err s) (Err t) h k a b

  -- the first test stopped, or failed
  pub stop_follows : (s : Stop) → Follows first (Err s) → Follows (AreInTurn first next) (Err s)
  stop_follows s (inl h) = inl (inl h)
  stop_follows s (inr failed) = inr failed

  -- it passed, and a stage follows the next
  pub next_follows : (x : T) (r : Result U Stop) → Follows first (Ok x) → Follows (next x) r → Follows (AreInTurn first next) r
  next_follows x (Ok y) (inl h) (inl k) = inl (x, h, k)
  next_follows x (Err s) (inl h) (inl k) = inl (inr (x, h, k))
  next_follows x (Err s) (inl h) (inr failed) = inr failed
  next_follows x (Ok y) (inl h) (inr failed) = absurd failed
  next_follows x r (inr failed) k = absurd failed
