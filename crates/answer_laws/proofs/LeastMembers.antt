-- The least member of a finite set by a total order.
use Rattle.std.proofs.Common.{◌≡◌, ℕ, ◌≤◌, ◌⊎◌, inl, inr, true, false, List, [], ◌∷◌, refl, ap, ◌∙◌, subst}
use Rattle.std.specs.Cmp.{IsTotalOrder, nat_cmp_is}
use Rattle.std.specs.Ordering.{is_lt, nat_cmp, ordering_reverse}
use Rattle.std.specs.Prelude.{All, Contains}
use Rattle.std.specs.declared.cmp.Ordering.{Ordering}
use Rattle.std.specs.declared.cmp.Ordering.TheVariants.{Less, Equal, Greater}
use Rattle.std.proofs.lemmas.Bool.{cases_Bool, cases_lt}
use Rattle.rhythm_base.proofs.FirstLists.{contains_split}
use Rattle.rhythm_base.proofs.OrderedLists.{all_head, all_tail}
use Rattle.rhythm_base.proofs.TotalOrders.{above, before_above, itself}
use Rattle.answer_laws.proofs.FiniteSets.{IsFinite, member_first, member_later, no_member}

-- a number that is not lower
pub not_lower : (m n : ℕ) → is_lt (nat_cmp m n) ≡ false → n ≤ m
not_lower m n never = elim (cases_lt m n) [
  | inl less ↦ let lower : true ≡ is_lt (nat_cmp m n) = ap is_lt (nat_cmp_is m n Less less) in absurd (cc)
  | inr few ↦ few
]

module _ {K : Type 0} {R : K → K → Ordering} (order : IsTotalOrder R) where
  pub three_ways : (x y : K) → (R x y ≡ Less) ⊎ ((R x y ≡ Equal) ⊎ (R y x ≡ Less))
  three_ways x y = go (R x y) refl
    where
      go : (r : Ordering) → R x y ≡ r → (R x y ≡ Less) ⊎ ((R x y ≡ Equal) ⊎ (R y x ≡ Less))
      go Less is = inl is
      go Equal is = inr (inl is)
      go Greater is = inr (inr (order.antisymm y x ∙ ap ordering_reverse is))

  module _ {X : Type 0} (key : X → K) (S : X → Type 0) where
    -- a member of the set, and no member of the list is lower
    abbrev pub IsLeastMember : List X → Type 0
    IsLeastMember xs = (x : X) × S x × ((y : X) → Contains xs y → is_lt (R (key y) (key x)) ≡ false)

    least_from : (best : X) (xs : List X) → S best → All S xs → IsLeastMember (best ∷ xs)
    least_from best [] s all = (
      best,
      s,
      λ y c. elim (contains_split y best [] c) [
        | inl same ↦ subst (λ z. is_lt (R (key z) (key best)) ≡ false) same (itself order (key best))
        | inr later ↦ absurd (no_member y later)
      ],
    )
    least_from best (x ∷ xs) s all =
        go (cases_Bool (is_lt (R (key x) (key best)))) (least_from best xs s (all_tail S x xs all)) (least_from x xs (all_head S x xs all) (all_tail S x xs all))
      where
        go : (is_lt (R (key x) (key best)) ≡ true) ⊎ (is_lt (R (key x) (key best)) ≡ false) → IsLeastMember (best ∷ xs) → IsLeastMember (x ∷ xs) → IsLeastMember (best ∷ (x ∷ xs))
        go (inl lower) old new = (
          new.0,
          new.1,
          λ y c. elim (contains_split y best (x ∷ xs) c) [
            | inl same ↦
                subst (λ z. is_lt (R (key z) (key new.0)) ≡ false) same
                (above order (key best) (key x) (key new.0) (before_above order (key x) (key best) lower) (new.2 x (member_first x xs)))
            | inr later ↦ new.2 y later
          ],
        )
        go (inr never) old new = (
          old.0,
          old.1,
          λ y c. elim (contains_split y best (x ∷ xs) c) [
            | inl same ↦ old.2 y (subst (Contains (best ∷ xs)) same (member_first best xs))
            | inr later ↦ elim (contains_split y x xs later) [
              | inl same ↦
                  subst (λ z. is_lt (R (key z) (key old.0)) ≡ false) same
                  (above order (key x) (key best) (key old.0) never (old.2 best (member_first best xs)))
              | inr last ↦ old.2 y (member_later y best xs last)
            ]
          ],
        )

    -- the least member of a set, where it has one
    pub least_of : IsFinite S → ((x : X) × S x × ((y : X) → S y → is_lt (R (key y) (key x)) ≡ false)) ⊎ ((x : X) → S x → ⊥)
    least_of all = go all.list all.are all.each
      where
        go : (list : List X) → All S list → ((x : X) → S x → Contains list x)
            → ((x : X) × S x × ((y : X) → S y → is_lt (R (key y) (key x)) ≡ false)) ⊎ ((x : X) → S x → ⊥)
        go [] are each = inr (λ x s. no_member x (each x s))
        go (x ∷ xs) are each =
            let least = least_from x xs (all_head S x xs are) (all_tail S x xs are) in
            inl (least.0, least.1, λ y s. least.2 y (each y s))
