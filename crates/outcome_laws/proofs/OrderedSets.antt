-- The members of a finite set are some list in the order of their places, where no two of them have one place.
use Rattle.std.proofs.Common.{◌≡◌, ◌⊎◌, inl, inr, ℕ, true, List, ap, refl}
use Rattle.std.specs.Cmp.Lexicographic.{slice_cmp}
use Rattle.std.specs.Ordering.{is_lt, nat_cmp}
use Rattle.std.specs.Prelude.{◌↔◌, Contains}
use Rattle.std.specs.declared.cmp.Ordering.{Ordering}
use Rattle.std.specs.declared.cmp.Ordering.TheVariants.{Less, Equal, Greater}
use Rattle.std.proofs.lemmas.Cmp.{nat_list_cmp_total}
use Rattle.answer_laws.proofs.FiniteSets.{IsFinite}
use Rattle.answer_laws.proofs.LeastMembers.{three_ways}
use Rattle.answer_laws.proofs.SortedMembers.{sorted}
use Rattle.rhythm_base.specs.Lists.{AreInOrder}
use Rattle.rhythm_base.proofs.FirstLists.{all_contained}
use Rattle.rhythm_base.proofs.OrderedLists.{goes_through, is_less}
use Rattle.rhythm_base.proofs.TotalOrders.{list_equal}

-- the members of the set, by rising places
pub record AreMembers {X : Type 0} (place : X → List ℕ) (S : X → Type 0) (list : List X) : Type 0 where
  pub in_order : AreInOrder place list
  pub exactly : (x : X) → Contains list x ↔ S x

module _ {X : Type 0} (place : X → List ℕ) (S : X → Type 0) where
  abbrev IsBefore : X → X → Type 0
  IsBefore x y = slice_cmp nat_cmp (place x) (place y) ≡ Less

  through : (x y z : X) → IsBefore x y → IsBefore y z → IsBefore x z
  through x y z h k = is_less _ (goes_through (place x) (place y) (place z) (ap is_lt h) (ap is_lt k))

  module _ (one : (x y : X) → S x → S y → place x ≡ place y → x ≡ y) where
    apart : (x y : X) → S x → S y → IsBefore x y ⊎ ((x ≡ y) ⊎ IsBefore y x)
    apart x y s t = elim (three_ways nat_list_cmp_total (place x) (place y)) [
      | inl before ↦ inl before
      | inr other ↦ elim other [
        | inl same ↦ inr (inl (one x y s t (list_equal (place x) (place y) same)))
        | inr after ↦ inr (inr after)
      ]
    ]

    pub some_members : IsFinite S → (list : List X) × AreMembers place S list
    some_members all =
        let whole = sorted S IsBefore apart through all.list all.are in (
          whole.list,
          record {
            in_order = whole.in_order;
            exactly = λ x. ((λ there. all_contained S whole.list x whole.are there), λ s. whole.each x (all.each x s));
          },
        )
