-- The trees of an interval by the rule on top, as sets of keys: a leaf, or trees of the rule's parts.
use Rattle.std.proofs.Common.{◌≡◌, ℕ, ◌+◌, true, false, [], ◌∷◌, ◌++◌, length, refl, sym, ap, ◌∙◌, subst, arith, append-nil}
use Rattle.std.specs.Prelude.{Option, Some, slice_get}
use Rattle.rhythm_base.specs.declared.rule.Rule.{Rule}
use Rattle.rhythm_base.specs.Cost.{charges, weight_of, weights}
use Rattle.rhythm_base.specs.Forest.{Forest, none, more, preorder}
use Rattle.rhythm_base.specs.Leaves.{in_bar}
use Rattle.rhythm_base.specs.Ranked.{Key, plus}
use Rattle.rhythm_base.specs.Shape.{Shape}
use Rattle.rhythm_base.specs.Bodies.{children}
use Rattle.rhythm_base.specs.Trees.{BarLeaf, are_trees, children_of, leaf_of, leaves, leaves_at, suits}
use Rattle.tree_laws.specs.Forests.{Ground, IsForestKey, StandsInBar, forest_cost, has_shapes, one_shape}
use Rattle.tree_laws.specs.Places.{FitsAt}
use Rattle.path_laws.specs.Rows.{IsOneBelow}
use Rattle.tree_laws.proofs.Ranks.{both}
use Rattle.row_laws.specs.RuleKeys.{IsRuleKey}
use Rattle.row_laws.proofs.RuleKeys.{single_tree, top_cost, top_shape, three, top_leaves, suits-within}

module _ (d : Ground) (pin : Option Shape) (p : ℕ) (q : ℕ × ℕ) (r a b : ℕ) where
  -- a rule that does not suit has no tree
  pub unsuited_none : suits (slice_get d.book.rules r) q ≡ false → (k : Key) → IsRuleKey d pin p q r a b k → ⊥
  unsuited_none e k x = let on = (both (suits (slice_get d.book.rules r) q) _ x.1.trees).0 in absurd (cc)

  module _ (rule : Rule) (at : slice_get d.book.rules r ≡ Some rule) (suit : suits (Some rule) q ≡ true) where
    suited : suits (slice_get d.book.rules r) q ≡ true
    suited = ap (λ o. suits o q) at ∙ suit

    kids : children_of (slice_get d.book.rules r) q.0 ≡ children rule.body q.0
    kids = ap (λ o. children_of o q.0) at

    -- ---- a cut

    module _ (cut : leaf_of rule.body p q.0 ≡ []) where
      no_leaf : leaves_at (slice_get d.book.rules r) p q.0 ≡ []
      no_leaf = ap (λ o. leaves_at o p q.0) at ∙ cut

      cut_leaves : (f : Forest) → leaves d.book.rules p (q ∷ []) (more r f none) ≡ leaves d.book.rules p (children rule.body q.0) f
      cut_leaves f = top_leaves d p q r f ∙ (λ i. no_leaf i ++ leaves d.book.rules p (kids i) f)

      cut_key : (f : Forest) → (forest_cost d p (q ∷ []) (more r f none), preorder (more r f none)) ≡ plus (rule.weight, r ∷ []) (forest_cost d p (children rule.body q.0) f, preorder f)
      cut_key f =
          let cost : forest_cost d p (q ∷ []) (more r f none) ≡ rule.weight + forest_cost d p (children rule.body q.0) f
          = top_cost d p q r f ∙ (λ i. weight_of (at i) + (weights d.book (preorder f) + charges d.book (in_bar d.bar (no_leaf i ++ leaves d.book.rules p (kids i) f)) d.chords)) in
          λ i. (cost i, append-nil (r ∷ preorder f) i)

      pub cut_back : (k : Key) → (y : Key) × IsForestKey d pin p (children rule.body q.0) a b y × (k ≡ plus (rule.weight, r ∷ []) y) → IsRuleKey d pin p q r a b k
      cut_back k (y, (f, h, own), is) = (
        f,
        record {
          trees = three (suits (slice_get d.book.rules r) q) (are_trees d.book.rules (children_of (slice_get d.book.rules r) q.0) f) suited (ap (λ qs. are_trees d.book.rules qs f) kids ∙ h.trees);
          shaped = top_shape pin r f ∙ h.shaped;
          fits = subst (λ l. FitsAt d.book.resolution d.bar d.chords d.before p l a b) (sym (cut_leaves f)) h.fits;
        },
        is ∙ ap (plus (rule.weight, r ∷ [])) own ∙ sym (cut_key f),
      )

    -- ---- a leaf

    module _ (x : BarLeaf) (leaf : leaf_of rule.body p q.0 ≡ x ∷ []) (end_here : children rule.body q.0 ≡ []) where
      no_kids : (f : Forest) → are_trees d.book.rules (q ∷ []) (more r f none) ≡ true → f ≡ none
      no_kids f h =
          let below = (both (are_trees d.book.rules (children_of (slice_get d.book.rules r) q.0) f) _ (both (suits (slice_get d.book.rules r) q) _ h).1).0 in
          go f (ap (λ qs. are_trees d.book.rules qs f) (sym (kids ∙ end_here)) ∙ below)
        where
          go : (f : Forest) → are_trees d.book.rules [] f ≡ true → f ≡ none
          go none h = refl
          go (more r f rest) h = absurd (cc)

      leaf_leaves : leaves d.book.rules p (q ∷ []) (more r none none) ≡ x ∷ []
      leaf_leaves = top_leaves d p q r none ∙ (λ i. own i ++ leaves d.book.rules p ((kids ∙ end_here) i) none)
        where
          own : leaves_at (slice_get d.book.rules r) p q.0 ≡ x ∷ []
          own = ap (λ o. leaves_at o p q.0) at ∙ leaf

      leaf_key : ◌≡◌ {A = Key} (forest_cost d p (q ∷ []) (more r none none), preorder (more r none none)) (rule.weight + charges d.book (in_bar d.bar (x ∷ [])) d.chords, r ∷ [])
      leaf_key =
          let cost = top_cost d p q r none in
          let own : weight_of (slice_get d.book.rules r) ≡ rule.weight = ap weight_of at in
          let nothing : weights d.book [] ≡ 0 = refl in
          let parts = ap (λ l. charges d.book (in_bar d.bar l) d.chords) (sym (top_leaves d p q r none) ∙ leaf_leaves) in
          let all : forest_cost d p (q ∷ []) (more r none none) ≡ rule.weight + charges d.book (in_bar d.bar (x ∷ [])) d.chords = omega (arith, cost, own, nothing, parts) in
          λ i. (all i, r ∷ [])

      pub leaf_there : (k : Key) → IsRuleKey d pin p q r a b k
          → (has_shapes pin none ≡ true) × FitsAt d.book.resolution d.bar d.chords d.before p (x ∷ []) a b × (k ≡ (rule.weight + charges d.book (in_bar d.bar (x ∷ [])) d.chords, r ∷ []))
      leaf_there k (f, h, is) =
          let bare = no_kids f h.trees in
          let own : StandsInBar d (one_shape pin) p (q ∷ []) (more r none none) a b = subst (λ f. StandsInBar d (one_shape pin) p (q ∷ []) (more r f none) a b) bare h in
          (sym (top_shape pin r none) ∙ own.shaped, subst (λ l. FitsAt d.book.resolution d.bar d.chords d.before p l a b) leaf_leaves own.fits, is ∙ (λ i. (forest_cost d p (q ∷ []) (more r (bare i) none), preorder (more r (bare i) none))) ∙ leaf_key)

      pub leaf_back : (k : Key) → has_shapes pin none ≡ true → FitsAt d.book.resolution d.bar d.chords d.before p (x ∷ []) a b → k ≡ (rule.weight + charges d.book (in_bar d.bar (x ∷ [])) d.chords, r ∷ [])
          → IsRuleKey d pin p q r a b k
      leaf_back k allowed fits is = (
        none,
        record {
          trees = three (suits (slice_get d.book.rules r) q) (are_trees d.book.rules (children_of (slice_get d.book.rules r) q.0) none) suited (ap (λ qs. are_trees d.book.rules qs none) (kids ∙ end_here));
          shaped = top_shape pin r none ∙ allowed;
          fits = subst (λ l. FitsAt d.book.resolution d.bar d.chords d.before p l a b) (sym leaf_leaves) fits;
        },
        is ∙ sym leaf_key,
      )

-- ---- all rules

module _ (d : Ground) (pin : Option Shape) (p : ℕ) (q : ℕ × ℕ) (a b : ℕ) where
  pub rule_there : (k : Key) → IsOneBelow (λ r. IsRuleKey d pin p q r a b) (length d.book.rules) k → IsForestKey d (one_shape pin) p (q ∷ []) a b k
  rule_there k x = (more x.0 x.2.0 none, x.2.1, x.2.2)

  pub rule_back : (k : Key) → IsForestKey d (one_shape pin) p (q ∷ []) a b k → IsOneBelow (λ r. IsRuleKey d pin p q r a b) (length d.book.rules) k
  rule_back k (f, h, is) =
      let one = single_tree d.book.rules q f h.trees in
      let own : StandsInBar d (one_shape pin) p (q ∷ []) (more one.0 one.1 none) a b = subst (λ f. StandsInBar d (one_shape pin) p (q ∷ []) f a b) one.2 h in
      (one.0, suits-within d.book.rules q one.0 (both (suits (slice_get d.book.rules one.0) q) _ own.trees).0, (one.1, own, is ∙ ap (λ f. (forest_cost d p (q ∷ []) f, preorder f)) one.2))
