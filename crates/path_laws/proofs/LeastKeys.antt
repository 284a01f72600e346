-- The least key of a set of keys.
use Rattle.std.proofs.Common.{◌≡◌, ℕ, zero, suc, ◌<◌, ◌⊎◌, inl, inr, Bool, true, false, refl, subst, ap, ◌∙◌, arith}
use Rattle.std.specs.Prelude.{Option, Some, None, if◌then◌else◌}
use Rattle.path_laws.specs.Tables.{IsLeastKey}
use Rattle.rhythm_base.specs.Ranked.{Key, is_before, plus, key_sum, better, pick, value_of}
use Rattle.path_laws.proofs.KeyOrders.{keys_total, key_equal, Parse, plus_above}
use Rattle.rhythm_base.proofs.TotalOrders.{above, both_above, before_above}
use Rattle.path_laws.specs.Rows.{IsOneBelow}

pub last : (m n : ℕ) → m < suc n → (m < n) ⊎ (m ≡ n)
last zero zero h = inr refl
last zero (suc n) h = inl (omega arith)
last (suc m) zero h = absurd (omega arith)
last (suc m) (suc n) h = elim (last m n (omega arith)) [
  | inl low ↦ inl (omega arith)
  | inr same ↦ inr (ap suc same)
]

abbrev pub IsLeast : (Key → Type 0) → Option Key → Type 0
IsLeast S o = IsLeastKey S o

pub IsLeast-one : (S : Key → Type 0) (o u : Option Key) → IsLeast S o → IsLeast S u → o ≡ u
IsLeast-one S None None h k = refl
IsLeast-one S None (Some y) h k = absurd (h y k.0)
IsLeast-one S (Some x) None h k = absurd (k x h.0)
IsLeast-one S (Some x) (Some y) h k = ap Some (key_equal x y (both_above keys_total x y (k.1 x h.0) (h.1 y k.0)))

pub IsLeast-same : (S T : Key → Type 0) (o : Option Key) → ((k : Key) → S k → T k) → ((k : Key) → T k → S k) → IsLeast S o → IsLeast T o
IsLeast-same S T None f g h = λ k t. h k (g k t)
IsLeast-same S T (Some x) f g h = (f x h.0, λ k t. h.1 k (g k t))

-- one that is in a set, and one of another, after each other
abbrev pub Both : (Key → Type 0) → (Key → Type 0) → Key → Type 0
Both S T k = (x : Key) × (y : Key) × S x × T y × (k ≡ plus x y)

pub joined-least : (S T : Key → Type 0) (o u : Option Key) → ((k l : Key) → S k → S l → Parse k.1 l.1) → IsLeast S o → IsLeast T u → IsLeast (Both S T) (key_sum o u)
joined-least S T None u long h g = λ k b. h b.0 b.2
joined-least S T (Some x) None long h g = λ k b. g b.1 b.3
joined-least S T (Some x) (Some y) long h g = ((x, y, h.0, g.0, refl), first)
  where
    first : (k : Key) → Both S T k → is_before k (plus x y) ≡ false
    first k b =
        ap (λ q. is_before q (plus x y)) b.4
        ∙ plus_above b.0 b.1 x y (long b.0 x b.2 h.0) (h.1 b.0 b.2) (g.1 b.1 b.3)

better-least : (S : ℕ → Key → Type 0) (n : ℕ) (o : Option (ℕ × Key)) (u : Option Key) → IsLeast (IsOneBelow S n) (value_of o) → IsLeast (S n) u
    → IsLeast (IsOneBelow S (suc n)) (value_of (better is_before o n u))
better-least S n None None h g = none
  where
    none : (k : Key) → IsOneBelow S (suc n) k → ⊥
    none k b = elim (last b.0 n b.1) [
      | inl low ↦ h k (b.0, low, b.2)
      | inr same ↦ g k (subst (λ m. S m k) same b.2)
    ]
better-least S n (Some x) None h g = ((h.0.0, omega (arith, h.0.1), h.0.2), first)
  where
    first : (k : Key) → IsOneBelow S (suc n) k → is_before k x.1 ≡ false
    first k b = elim (last b.0 n b.1) [
      | inl low ↦ h.1 k (b.0, low, b.2)
      | inr same ↦ absurd (g k (subst (λ m. S m k) same b.2))
    ]
better-least S n None (Some y) h g = ((n, omega arith, g.0), first)
  where
    first : (k : Key) → IsOneBelow S (suc n) k → is_before k y ≡ false
    first k b = elim (last b.0 n b.1) [
      | inl low ↦ absurd (h k (b.0, low, b.2))
      | inr same ↦ g.1 k (subst (λ m. S m k) same b.2)
    ]
better-least S n (Some x) (Some y) h g = go (is_before y x.1) refl
  where
    go : (b : Bool) → is_before y x.1 ≡ b → IsLeast (IsOneBelow S (suc n)) (value_of (if b then Some (n, y) else Some x))
    go true e = ((n, omega arith, g.0), first)
      where
        first : (k : Key) → IsOneBelow S (suc n) k → is_before k y ≡ false
        first k b = elim (last b.0 n b.1) [
          | inl low ↦ above keys_total k x.1 y (h.1 k (b.0, low, b.2)) (before_above keys_total y x.1 e)
          | inr same ↦ g.1 k (subst (λ m. S m k) same b.2)
        ]
    go false e = ((h.0.0, omega (arith, h.0.1), h.0.2), first)
      where
        first : (k : Key) → IsOneBelow S (suc n) k → is_before k x.1 ≡ false
        first k b = elim (last b.0 n b.1) [
          | inl low ↦ h.1 k (b.0, low, b.2)
          | inr same ↦ above keys_total k y x.1 (g.1 k (subst (λ m. S m k) same b.2)) e
        ]

pub pick-least : (S : ℕ → Key → Type 0) (c : ℕ → Option Key) (n : ℕ) → ((m : ℕ) → m < n → IsLeast (S m) (c m)) → IsLeast (IsOneBelow S n) (value_of (pick is_before c n))
pick-least S c zero h = λ k b. absurd (omega (arith, b.1))
pick-least S c (suc n) h = better-least S n (pick is_before c n) (c n) (pick-least S c n (λ m low. h m (omega arith))) (h n (omega arith))

-- what is the least of a set is in it
pub in_set : (S : Key → Type 0) (o : Option Key) (x : Key) → IsLeastKey S o → o ≡ Some x → S x
in_set S None x h e = absurd (cc)
in_set S (Some y) x h e = let same : y ≡ x = cc in subst S same h.0
