-- The lower of two keys, and a rule on top of a key.
use Rattle.std.proofs.Common.{◌≡◌, ℕ, suc, ◌+◌, inl, inr, Bool, true, false, ◌∷◌, refl, subst, arith}
use Rattle.std.specs.Prelude.{Option, Some, None, if◌then◌else◌}
use Rattle.rhythm_base.specs.Ranked.{Key, is_before}
use Rattle.path_laws.specs.Tables.{IsLeastKey}
use Rattle.path_laws.specs.Rows.{IsOneBelow}
use Rattle.rhythm_base.proofs.TotalOrders.{above, before_above}
use Rattle.path_laws.proofs.KeyOrders.{keys_total}
use Rattle.path_laws.proofs.LeastKeys.{last}

-- ---- the lower of two keys

abbrev pub lower_of : Option Key → Option Key → Option Key
lower_of o None = o
lower_of None (Some x) = Some x
lower_of (Some y) (Some x) = if is_before x y then Some x else Some y

pub lower-least : (S : ℕ → Key → Type 0) (n : ℕ) (o u : Option Key) → IsLeastKey (IsOneBelow S n) o → IsLeastKey (S n) u → IsLeastKey (IsOneBelow S (suc n)) (lower_of o u)
lower-least S n None None h g = λ k b. elim (last b.0 n b.1) [
  | inl low ↦ h k (b.0, low, b.2)
  | inr same ↦ g k (subst (λ m. S m k) same b.2)
]
lower-least S n (Some x) None h g = (
  (h.0.0, omega (arith, h.0.1), h.0.2),
  λ k b. elim (last b.0 n b.1) [
    | inl low ↦ h.1 k (b.0, low, b.2)
    | inr same ↦ absurd (g k (subst (λ m. S m k) same b.2))
  ],
)
lower-least S n None (Some y) h g = (
  (n, omega arith, g.0),
  λ k b. elim (last b.0 n b.1) [
    | inl low ↦ absurd (h k (b.0, low, b.2))
    | inr same ↦ g.1 k (subst (λ m. S m k) same b.2)
  ],
)
lower-least S n (Some x) (Some y) h g = go (is_before y x) refl
  where
    go : (b : Bool) → is_before y x ≡ b → IsLeastKey (IsOneBelow S (suc n)) (if b then Some y else Some x)
    go true e = (
      (n, omega arith, g.0),
      λ k b. elim (last b.0 n b.1) [
        | inl low ↦ above keys_total k x y (h.1 k (b.0, low, b.2)) (before_above keys_total y x e)
        | inr same ↦ g.1 k (subst (λ m. S m k) same b.2)
      ],
    )
    go false e = (
      (h.0.0, omega (arith, h.0.1), h.0.2),
      λ k b. elim (last b.0 n b.1) [
        | inl low ↦ h.1 k (b.0, low, b.2)
        | inr same ↦ above keys_total k y x (g.1 k (subst (λ m. S m k) same b.2)) e
      ],
    )

-- ---- a rule on top

abbrev pub on_top : ℕ → ℕ → Option Key → Option Key
on_top w r None = None
on_top w r (Some k) = Some (w + k.0, r ∷ k.1)
