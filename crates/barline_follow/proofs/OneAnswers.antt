-- The definitions have one answer.
use Rattle.std.proofs.Common.{◌≡◌, ℕ, List, [], ◌∷◌, sym, ap, ◌∙◌, subst, Result, Ok}
use Rattle.std.specs.Prelude.{filter, take, Option}
use Rattle.std.specs.Cmp.Lexicographic.{nat_list_cmp_total}
use Rattle.rhythm_base.proofs.FirstLists.{one_earlier, one_order}
use Rattle.rhythm_base.specs.declared.edit.Edit.{Edit}
use Rattle.rhythm_base.specs.declared.edit_fault.EditFault.{EditFault}
use Rattle.edit_laws.specs.Edits.{edited}
use Rattle.rhythm_base.specs.Grammar.{Grammar}
use Rattle.rhythm_base.specs.Performance.{Performance}
use Rattle.barline_follow.specs.declared.offers.Offer.{Offer}
use Rattle.barline_follow.specs.Barring.{Barring, barring_end, is_below, barring_value}
use Rattle.barline_follow.specs.Least.{AreFirstLeast}
use Rattle.barline_follow.specs.Offers.{AreOffers, proposals}
use Rattle.barline_follow.specs.Rounds.{IsNextFront}
use Rattle.barline_follow.specs.Script.{Leads}

module _ {X : Type 0} (value tick : X → ℕ) where
  abbrev place : X → List ℕ
  place x = value x ∷ tick x ∷ []

  pub one_first_least : (xs a b : List X) → AreFirstLeast value tick xs a → AreFirstLeast value tick xs b → a ≡ b
  one_first_least xs a b h k =
      one_order _ (λ x y. one_earlier nat_list_cmp_total (place x) (place y)) a b h.in_order k.in_order
      (λ o there. (k.exactly o).1 ((h.exactly o).0 there))
      (λ o there. (h.exactly o).1 ((k.exactly o).0 there))

pub one_offers : (g : Grammar) (p : Performance) (i before : ℕ) (a b : List Offer) → AreOffers g p i before a → AreOffers g p i before b → a ≡ b
one_offers g p i before a b h k = one_first_least (λ o. o.price) (λ o. o.ticks) (proposals g p i before) a b h k

pub one_front : (best : Option Barring) (bs a b : List Barring) → IsNextFront best bs a → IsNextFront best bs b → a ≡ b
one_front best bs a b h k =
    h.2 ∙ ap (λ (kept : List Barring). filter (is_below best) (take 24 kept)) (one_first_least barring_value barring_end bs h.0 k.0 h.1 k.1) ∙ sym k.2

pub same_next : (r : Result Performance EditFault) (a b : Performance) → r ≡ Ok a → r ≡ Ok b → a ≡ b
same_next r a b h k = let both : Ok a ≡ Ok b = sym h ∙ k in cc

pub one_end : (g : Grammar) (p : Performance) (edits : List Edit) (a b : Performance) → Leads g p edits a → Leads g p edits b → a ≡ b
one_end g p [] a b h k = h ∙ sym k
one_end g p (edit ∷ edits) a b h k =
    let same : k.0 ≡ h.0 = same_next (edited p edit) k.0 h.0 k.1.1 h.1.1 in
    one_end g h.0 edits a b h.2 (subst (λ (q : Performance). Leads g q edits b) same k.2)
