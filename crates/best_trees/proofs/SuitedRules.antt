-- The rules that suit, one number after the other.
use Rattle.std.proofs.Common.{◌≡◌, ℕ, ◌+◌, ◌≤◌, inl, inr, true, false, List, [], ◌∷◌, ◌++◌, subst, arith}
use Rattle.std.specs.Prelude.{slice_get}
use Rattle.std.proofs.lemmas.Bool.{cases_lt}
use Rattle.rhythm_base.specs.Trees.{suits}
use Rattle.rhythm_base.specs.declared.rule.Rule.{Rule}
use Rattle.best_trees.specs.Suited.{AreSuiting, NoneSuit}

module _ (rules : List Rule) (q : ℕ × ℕ) (to : ℕ) where
  none-more : (from : ℕ) → suits (slice_get rules to) q ≡ false → NoneSuit rules q from to → NoneSuit rules q from (to + 1)
  none-more from off h r low high = elim (cases_lt r to) [
    | inl less ↦ h r low less
    | inr more ↦ let same : to ≡ r = omega (arith, more, high) in subst (λ r. suits (slice_get rules r) q ≡ false) same off
  ]

  -- the next rule does not suit
  pub suiting-skip : (ns : List ℕ) (from : ℕ) → suits (slice_get rules to) q ≡ false → AreSuiting rules q ns from to → AreSuiting rules q ns from (to + 1)
  suiting-skip [] from off h = none-more from off h
  suiting-skip (n ∷ ns) from off (low, high, none, on, rest) = (low, omega (arith, high), none, on, suiting-skip ns (n + 1) off rest)

  -- it does
  pub suiting-push : (ns : List ℕ) (from : ℕ) → from ≤ to → suits (slice_get rules to) q ≡ true → AreSuiting rules q ns from to → AreSuiting rules q (ns ++ to ∷ []) from (to + 1)
  suiting-push [] from order on h = (order, omega arith, h, on, λ r low high. absurd (omega (arith, low, high)))
  suiting-push (n ∷ ns) from order on (low, high, none, own, rest) = (low, omega (arith, high), none, own, suiting-push ns (n + 1) (omega (arith, high)) on rest)

pub suiting-none : (rules : List Rule) (q : ℕ × ℕ) → AreSuiting rules q [] 0 0
suiting-none rules q r low high = absurd (omega (arith, high))
