-- Whatever is told of trees side by side, a key or none of each, the least of these keys is there: rules are finite in number,
-- and the parts of a cut are narrower than the whole.
use Rattle.std.proofs.Common.{◌≡◌, ℕ, zero, suc, ◌<◌, ◌≤◌, ◌&&◌, ◌==◌, Bool, true, false, List, [], ◌∷◌, length, refl, sym, ap, ap₂, ◌∙◌, arith}
use Rattle.std.specs.Prelude.{Option, Some, None, slice_get}
use Rattle.std.proofs.lemmas.Option.{slice_get_within}
use Rattle.rhythm_base.specs.Forest.{Forest, none, more}
use Rattle.rhythm_base.specs.Ranked.{Key, is_before, pick, value_of}
use Rattle.rhythm_base.specs.Trees.{are_trees, children_of, suits}
use Rattle.rhythm_base.specs.declared.rule.Rule.{Rule}
use Rattle.path_laws.specs.Rows.{IsOneBelow}
use Rattle.path_laws.specs.Tables.{IsLeastKey}
use Rattle.tree_laws.specs.Shares.{AreBelow}
use Rattle.rhythm_base.proofs.Booleans.{and_right}
use Rattle.rhythm_base.proofs.TotalOrders.{above, itself}
use Rattle.path_laws.proofs.KeyOrders.{keys_total}
use Rattle.path_laws.proofs.LeastKeys.{IsLeast-same, pick-least, in_set}
use Rattle.tree_laws.proofs.Ranks.{both}
use Rattle.tree_laws.proofs.Shares.{children-below}

-- the least key of the set, or that it is empty, is there
abbrev pub HasLeastKey : (Key → Type 0) → Type 0
HasLeastKey S = (o : Option Key) × IsLeastKey S o

-- ---- the least of the least of each

-- where a set has a key, it has a least one
least_there : (S : Key → Type 0) (o : Option Key) (k : Key) → IsLeastKey S o → S k → (x : Key) × (o ≡ Some x) × (is_before k x ≡ false)
least_there S None k h s = absurd (h k s)
least_there S (Some x) k h s = (x, refl, h.1 k s)

-- a key of the set of some forest that is allowed
abbrev IsOfAny : (Forest → Type 0) → (Forest → Key → Type 0) → Key → Type 0
IsOfAny T S k = (f : Forest) × T f × S f k

least_of_each : (T : Forest → Type 0) (S : Forest → Key → Type 0) (each : (f : Forest) → HasLeastKey (S f)) (o : Option Key)
    → IsLeastKey (IsOfAny T (λ f k. (each f).0 ≡ Some k)) o → IsLeastKey (IsOfAny T S) o
least_of_each T S each None h = λ k x. let low = least_there (S x.0) (each x.0).0 k (each x.0).1 x.2 in h low.0 (x.0, x.1, low.1)
least_of_each T S each (Some m) h = ((h.0.0, h.0.1, in_set (S h.0.0) (each h.0.0).0 m (each h.0.0).1 h.0.2), first)
  where
    first : (k : Key) → IsOfAny T S k → is_before k m ≡ false
    first k x =
        let low = least_there (S x.0) (each x.0).0 k (each x.0).1 x.2 in
        above keys_total k low.0 m low.2 (h.1 low.0 (x.0, x.1, low.1))

-- ---- parts of a wider interval

wider : (v w : ℕ) (qs : List (ℕ × ℕ)) → v ≤ w → AreBelow v qs → AreBelow w qs
wider v w [] le h = tt
wider v w (q ∷ qs) le h = (h.0, omega (arith, le, h.1), wider v w qs le h.2)

module _ (rules : List Rule) where
  -- what is told of some trees of these widths and symbols
  abbrev pub IsToldKey : List (ℕ × ℕ) → (Forest → Option Key) → Key → Type 0
  IsToldKey qs told k = IsOfAny (λ f. are_trees rules qs f ≡ true) (λ f k. told f ≡ Some k) k

  none_told : (told : Forest → Option Key) → HasLeastKey (IsToldKey [] told)
  none_told told = (told none, go (told none) refl)
    where
      go : (o : Option Key) → told none ≡ o → IsLeastKey (IsToldKey [] told) o
      go None e = never
        where
          never : (k : Key) → IsToldKey [] told k → ⊥
          never k (none, trees, is) = let no : None ≡ Some k = sym e ∙ is in absurd (cc)
          never k (more r kids rest, trees, is) = let no : false ≡ true = trees in absurd (cc)
      go (Some x) e = ((none, refl, e), first)
        where
          first : (k : Key) → IsToldKey [] told k → is_before k x ≡ false
          first k (none, trees, is) =
              let both_told : Some x ≡ Some k = sym e ∙ is in
              let same : x ≡ k = cc in
              ap (λ l. is_before l x) (sym same) ∙ itself keys_total x
          first k (more r kids rest, trees, is) = let no : false ≡ true = trees in absurd (cc)

  -- ---- a tree of this width and symbol, and others after it

  module _ (q : ℕ × ℕ) (qs : List (ℕ × ℕ)) (wide : 1 ≤ q.0) (told : Forest → Option Key)
      (parts : (ks : List (ℕ × ℕ)) → AreBelow q.0 ks → (t : Forest → Option Key) → HasLeastKey (IsToldKey ks t))
      (others : (t : Forest → Option Key) → HasLeastKey (IsToldKey qs t)) where
    abbrev parts_under : ℕ → List (ℕ × ℕ)
    parts_under r = children_of (slice_get rules r) q.0

    -- what is told of those of which the first has this rule on top, by its parts and by the others
    abbrev ArePartsUnder : ℕ → Forest → Type 0
    ArePartsUnder r kids = are_trees rules (parts_under r) kids ≡ true

    abbrev IsToldBeside : ℕ → Forest → Key → Type 0
    IsToldBeside r kids k = IsToldKey qs (λ rest. told (more r kids rest)) k

    -- where it is a rule that suits
    abbrev IsTopKey : ℕ → Key → Type 0
    IsTopKey r k = (suits (slice_get rules r) q ≡ true) × IsOfAny (ArePartsUnder r) (IsToldBeside r) k

    parts_below : (o : Option Rule) → suits o q ≡ true → AreBelow q.0 (children_of o q.0)
    parts_below None suit = absurd (cc)
    parts_below (Some rule) suit = children-below rule.body q.0 wide (and_right (rule.lhs == q.1) _ suit)

    rule_within : (r : ℕ) (o : Option Rule) → slice_get rules r ≡ o → suits o q ≡ true → r < length rules
    rule_within r None e suit = absurd (cc)
    rule_within r (Some rule) e suit = slice_get_within rules r rule e

    top_least : (r : ℕ) → HasLeastKey (IsTopKey r)
    top_least r = go (suits (slice_get rules r) q) refl
      where
        go : (b : Bool) → suits (slice_get rules r) q ≡ b → HasLeastKey (IsTopKey r)
        go false e = (None, λ k x. let no : true ≡ false = sym x.0 ∙ e in absurd (cc))
        go true e =
            let each : (kids : Forest) → HasLeastKey (IsToldBeside r kids) = λ kids. others (λ rest. told (more r kids rest)) in
            let least = parts (parts_under r) (parts_below (slice_get rules r) e) (λ kids. (each kids).0) in
            let all = least_of_each (ArePartsUnder r) (IsToldBeside r) each least.0 least.1 in
            (least.0, IsLeast-same (IsOfAny (ArePartsUnder r) (IsToldBeside r)) (IsTopKey r) least.0 (λ k x. (e, x)) (λ k x. x.1) all)

    beside_least : HasLeastKey (IsToldKey (q ∷ qs) told)
    beside_least = (
      value_of (pick is_before (λ r. (top_least r).0) (length rules)),
      IsLeast-same (IsOneBelow IsTopKey (length rules)) (IsToldKey (q ∷ qs) told) (value_of (pick is_before (λ r. (top_least r).0) (length rules))) there back
          (pick-least IsTopKey (λ r. (top_least r).0) (length rules) (λ r low. (top_least r).1)),
    )
      where
        there : (k : Key) → IsOneBelow IsTopKey (length rules) k → IsToldKey (q ∷ qs) told k
        there k (r, low, (suit, (kids, trees, (rest, after, is)))) = (more r kids rest, ap₂ ◌&&◌ suit (ap₂ ◌&&◌ trees after), is)

        back : (k : Key) → IsToldKey (q ∷ qs) told k → IsOneBelow IsTopKey (length rules) k
        back k (none, trees, is) = let no : false ≡ true = trees in absurd (cc)
        back k (more r kids rest, trees, is) =
            let own = both (suits (slice_get rules r) q) _ trees in
            let below = both (are_trees rules (parts_under r) kids) _ own.1 in
            (r, rule_within r (slice_get rules r) refl own.0, (own.0, (kids, below.0, (rest, below.1, is))))

  beside : (n : ℕ) → ((ks : List (ℕ × ℕ)) → AreBelow n ks → (t : Forest → Option Key) → HasLeastKey (IsToldKey ks t))
      → (qs : List (ℕ × ℕ)) → AreBelow (suc n) qs → (told : Forest → Option Key) → HasLeastKey (IsToldKey qs told)
  beside n narrower [] below told = none_told told
  beside n narrower (q ∷ qs) below told =
      beside_least q qs below.0 told (λ ks h t. narrower ks (wider q.0 n ks (omega (arith, below.1)) h) t) (λ t. beside n narrower qs below.2 t)

  pub told_least : (n : ℕ) (qs : List (ℕ × ℕ)) → AreBelow n qs → (told : Forest → Option Key) → HasLeastKey (IsToldKey qs told)
  told_least zero [] below told = none_told told
  told_least zero (q ∷ qs) below told = absurd (omega (arith, below.1))
  told_least (suc n) qs below told = beside n (λ ks h t. told_least n ks h t) qs below told
