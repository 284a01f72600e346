-- The trees of an interval by their rules: a leaf, or trees of the rule's parts.
use Rattle.std.proofs.Common.{◌≡◌, ◌≢◌, ℕ, ◌<◌, ◌+◌, ◌&&◌, Bool, true, false, List, [], ◌∷◌, ◌++◌, length, refl, sym, ap, ◌∙◌, subst, arith, append-nil}
use Rattle.std.specs.Prelude.{Option, Some, None, slice_get, if◌then◌else◌}
use Rattle.std.proofs.lemmas.List.Sums.{sum_by-cons}
use Rattle.std.proofs.lemmas.Option.{slice_get_within}
use Rattle.rhythm_base.specs.declared.rule.Rule.{Rule}
use Rattle.rhythm_base.specs.Cost.{charges, weight_of, weights}
use Rattle.rhythm_base.specs.Forest.{Forest, none, more, preorder}
use Rattle.rhythm_base.specs.Leaves.{in_bar}
use Rattle.rhythm_base.specs.Shape.{Shape}
use Rattle.rhythm_base.specs.Ranked.{Key, is_before, plus}
use Rattle.rhythm_base.specs.Shapes.{parts_in}
use Rattle.rhythm_base.specs.Bodies.{children}
use Rattle.rhythm_base.specs.Trees.{BarLeaf, are_shaped, are_trees, children_of, leaf_of, leaves, leaves_at, suits}
use Rattle.tree_laws.specs.Forests.{Ground, IsForestKey, StandsInBar, forest_cost, has_shapes, one_shape}
use Rattle.tree_laws.specs.Places.{FitsAt}
use Rattle.path_laws.specs.Tables.{IsLeastKey}
use Rattle.rhythm_base.proofs.TotalOrders.{itself}
use Rattle.path_laws.proofs.KeyOrders.{keys_total, long_parse, plus_above}
use Rattle.path_laws.specs.Rows.{IsOneBelow}
use Rattle.path_laws.proofs.LeastKeys.{IsLeast-same}
use Rattle.tree_laws.proofs.Ranks.{both}
use Rattle.tree_laws.proofs.ShapesOfTrees.{one_shape_of, parts-many}
use Rattle.row_laws.specs.RuleKeys.{IsRuleKey}
use Rattle.row_laws.proofs.Lower.{on_top}

-- the rule of a tree is one of the grammar's
pub suits-within : (rules : List Rule) (q : ℕ × ℕ) (r : ℕ) → suits (slice_get rules r) q ≡ true → r < length rules
suits-within rules q r e = go (slice_get rules r) refl e
  where
    go : (o : Option Rule) → slice_get rules r ≡ o → suits o q ≡ true → r < length rules
    go None e h = absurd (cc)
    go (Some rule) e h = slice_get_within rules r rule e

pub rules-whole : (d : Ground) (pin : Option Shape) (p : ℕ) (q : ℕ × ℕ) (a b : ℕ) (o : Option Key) → IsLeastKey (IsOneBelow (λ r. IsRuleKey d pin p q r a b) (length d.book.rules)) o
    → IsLeastKey (IsForestKey d (one_shape pin) p (q ∷ []) a b) o
rules-whole d pin p q a b o h =
    IsLeast-same (IsOneBelow (λ r. IsRuleKey d pin p q r a b) (length d.book.rules)) (IsForestKey d (one_shape pin) p (q ∷ []) a b) o
    (λ k x. (more x.0 x.2.0 none, x.2.1, x.2.2)) back h
  where
    back : (k : Key) → IsForestKey d (one_shape pin) p (q ∷ []) a b k → IsOneBelow (λ r. IsRuleKey d pin p q r a b) (length d.book.rules) k
    back k (none, stands, is) = let no : false ≡ true = stands.trees in absurd (cc)
    back k (more r f none, stands, is) = (r, suits-within d.book.rules q r (both (suits (slice_get d.book.rules r) q) _ stands.trees).0, (f, stands, is))
    back k (more r f (more r' f' rest), stands, is) =
        let below = (both (suits (slice_get d.book.rules r) q) _ stands.trees).1 in
        let no : false ≡ true = (both (are_trees d.book.rules (children_of (slice_get d.book.rules r) q.0) f) _ below).1 in
        absurd (cc)

-- a rule that does not suit
pub unsuited-least : (d : Ground) (pin : Option Shape) (p : ℕ) (q : ℕ × ℕ) (r a b : ℕ) → suits (slice_get d.book.rules r) q ≡ false → IsLeastKey (IsRuleKey d pin p q r a b) None
unsuited-least d pin p q r a b e k (f, stands, is) = let on = (both (suits (slice_get d.book.rules r) q) _ stands.trees).0 in absurd (cc)

-- trees of one symbol are one tree
pub single_tree : (rules : List Rule) (q : ℕ × ℕ) (f : Forest) → are_trees rules (q ∷ []) f ≡ true → (r : ℕ) × (k : Forest) × (f ≡ more r k none)
single_tree rules q none h = absurd (cc)
single_tree rules q (more r f none) h = (r, f, refl)
single_tree rules q (more r f (more r' f' rest)) h =
    let below = (both (suits (slice_get rules r) q) _ h).1 in
    let no_more : false ≡ true = (both (are_trees rules (children_of (slice_get rules r) q.0) f) _ below).1 in
    absurd (cc)

-- ---- shapes

-- trees of a shape are as many as its parts
trees-parts : (rules : List Rule) (x : Shape) (qs : List (ℕ × ℕ)) (f : Forest) → are_trees rules qs f ≡ true → are_shaped x f ≡ true → parts_in x ≡ length qs
trees-parts rules x qs f h s = ap parts_in ((one_shape_of x f).0 s) ∙ parts-many rules qs f h

pub top_shape : (pin : Option Shape) (r : ℕ) (f : Forest) → has_shapes (one_shape pin) (more r f none) ≡ has_shapes pin f
top_shape None r f = refl
top_shape (Some x) r f = go (are_shaped x f)
  where
    go : (b : Bool) → b && true ≡ b
    go true = refl
    go false = refl

-- a rule with another number of parts than the pin
pub unshaped-least : (d : Ground) (x : Shape) (p : ℕ) (q : ℕ × ℕ) (r a b : ℕ) → parts_in x ≢ length (children_of (slice_get d.book.rules r) q.0) → IsLeastKey (IsRuleKey d (Some x) p q r a b) None
unshaped-least d x p q r a b other k (f, stands, is) =
    let below = (both (suits (slice_get d.book.rules r) q) _ stands.trees).1 in
    other (trees-parts d.book.rules x (children_of (slice_get d.book.rules r) q.0) f (both (are_trees d.book.rules (children_of (slice_get d.book.rules r) q.0) f) _ below).0 (sym (top_shape (Some x) r f) ∙ stands.shaped))

-- ---- a rule on top

pub three : (a b : Bool) → a ≡ true → b ≡ true → a && (b && true) ≡ true
three true true p q = refl
three true false p q = q
three false b p q = p

-- what a tree costs by its rule and the rest
pub top_cost : (d : Ground) (p : ℕ) (q : ℕ × ℕ) (r : ℕ) (f : Forest)
    → forest_cost d p (q ∷ []) (more r f none) ≡ weight_of (slice_get d.book.rules r) + (weights d.book (preorder f) + charges d.book (in_bar d.bar (leaves_at (slice_get d.book.rules r) p q.0 ++ leaves d.book.rules p (children_of (slice_get d.book.rules r) q.0) f)) d.chords)
top_cost d p q r f =
    let list : preorder (more r f none) ≡ r ∷ preorder f = append-nil (r ∷ preorder f) in
    let parts : leaves d.book.rules p (q ∷ []) (more r f none) ≡ leaves_at (slice_get d.book.rules r) p q.0 ++ leaves d.book.rules p (children_of (slice_get d.book.rules r) q.0) f
    = ap (λ l. leaves_at (slice_get d.book.rules r) p q.0 ++ l) (append-nil (leaves d.book.rules p (children_of (slice_get d.book.rules r) q.0) f)) in
    let first = ap (weights d.book) list in
    let second = sum_by-cons (λ n. weight_of (slice_get d.book.rules n)) r (preorder f) in
    let third = ap (λ l. charges d.book (in_bar d.bar l) d.chords) parts in
    omega (arith, first, second, third)

pub top_leaves : (d : Ground) (p : ℕ) (q : ℕ × ℕ) (r : ℕ) (f : Forest)
    → leaves d.book.rules p (q ∷ []) (more r f none) ≡ leaves_at (slice_get d.book.rules r) p q.0 ++ leaves d.book.rules p (children_of (slice_get d.book.rules r) q.0) f
top_leaves d p q r f = ap (λ l. leaves_at (slice_get d.book.rules r) p q.0 ++ l) (append-nil (leaves d.book.rules p (children_of (slice_get d.book.rules r) q.0) f))

module _ (d : Ground) (pin : Option Shape) (p : ℕ) (q : ℕ × ℕ) (r a b : ℕ) (rule : Rule) (at : slice_get d.book.rules r ≡ Some rule) (suit : suits (Some rule) q ≡ true) where
  suited : suits (slice_get d.book.rules r) q ≡ true
  suited = ap (λ o. suits o q) at ∙ suit

  kids : children_of (slice_get d.book.rules r) q.0 ≡ children rule.body q.0
  kids = ap (λ o. children_of o q.0) at

  -- ---- a cut

  module _ (cut : leaf_of rule.body p q.0 ≡ []) where
    no_leaf : leaves_at (slice_get d.book.rules r) p q.0 ≡ []
    no_leaf = ap (λ o. leaves_at o p q.0) at ∙ cut

    cut_leaves : (f : Forest) → leaves d.book.rules p (q ∷ []) (more r f none) ≡ leaves d.book.rules p (children rule.body q.0) f
    cut_leaves f = top_leaves d p q r f ∙ (λ i. no_leaf i ++ leaves d.book.rules p (kids i) f)

    cut_cost : (f : Forest) → forest_cost d p (q ∷ []) (more r f none) ≡ rule.weight + forest_cost d p (children rule.body q.0) f
    cut_cost f = top_cost d p q r f ∙ (λ i. weight_of (at i) + (weights d.book (preorder f) + charges d.book (in_bar d.bar (no_leaf i ++ leaves d.book.rules p (kids i) f)) d.chords))

    cut_key : (f : Forest) → (forest_cost d p (q ∷ []) (more r f none), preorder (more r f none)) ≡ plus (rule.weight, r ∷ []) (forest_cost d p (children rule.body q.0) f, preorder f)
    cut_key f = λ i. (cut_cost f i, append-nil (r ∷ preorder f) i)

    down : (f : Forest) → StandsInBar d (one_shape pin) p (q ∷ []) (more r f none) a b → StandsInBar d pin p (children rule.body q.0) f a b
    down f h = record {
      trees = ap (λ qs. are_trees d.book.rules qs f) (sym kids) ∙ (both (are_trees d.book.rules (children_of (slice_get d.book.rules r) q.0) f) _ (both (suits (slice_get d.book.rules r) q) _ h.trees).1).0;
      shaped = sym (top_shape pin r f) ∙ h.shaped;
      fits = subst (λ l. FitsAt d.book.resolution d.bar d.chords d.before p l a b) (cut_leaves f) h.fits;
    }

    up : (f : Forest) → StandsInBar d pin p (children rule.body q.0) f a b → StandsInBar d (one_shape pin) p (q ∷ []) (more r f none) a b
    up f h = record {
      trees = three (suits (slice_get d.book.rules r) q) (are_trees d.book.rules (children_of (slice_get d.book.rules r) q.0) f) suited (ap (λ qs. are_trees d.book.rules qs f) kids ∙ h.trees);
      shaped = top_shape pin r f ∙ h.shaped;
      fits = subst (λ l. FitsAt d.book.resolution d.bar d.chords d.before p l a b) (sym (cut_leaves f)) h.fits;
    }

    -- a key of the rule is one of its parts with the rule on top
    pub cut-key : (k : Key) → IsRuleKey d pin p q r a b k → (l : Key) × IsForestKey d pin p (children rule.body q.0) a b l × (k ≡ (rule.weight + l.0, r ∷ l.1))
    cut-key k x = ((forest_cost d p (children rule.body q.0) x.0, preorder x.0), (x.0, down x.0 x.1, refl), x.2 ∙ cut_key x.0)

    pub cut-least : (o : Option Key) → IsLeastKey (IsForestKey d pin p (children rule.body q.0) a b) o → IsLeastKey (IsRuleKey d pin p q r a b) (on_top rule.weight r o)
    cut-least None h = λ k x. h (forest_cost d p (children rule.body q.0) x.0, preorder x.0) (x.0, down x.0 x.1, refl)
    cut-least (Some k) h =
        ((h.0.0, up h.0.0 h.0.1, ap (plus (rule.weight, r ∷ [])) h.0.2 ∙ sym (cut_key h.0.0)), first)
      where
        first : (l : Key) → IsRuleKey d pin p q r a b l → is_before l (rule.weight + k.0, r ∷ k.1) ≡ false
        first l x =
            let own : Key = (forest_cost d p (children rule.body q.0) x.0, preorder x.0) in
            ap (λ l. is_before l (rule.weight + k.0, r ∷ k.1)) (x.2 ∙ cut_key x.0)
            ∙ plus_above (rule.weight, r ∷ []) own (rule.weight, r ∷ []) k (long_parse (r ∷ []) (r ∷ []) refl) (itself keys_total (rule.weight, r ∷ [])) (h.1 own (x.0, down x.0 x.1, refl))

  -- ---- a leaf

  module _ (x : BarLeaf) (leaf : leaf_of rule.body p q.0 ≡ x ∷ []) (end_here : children rule.body q.0 ≡ []) where
    no_kids : (f : Forest) → are_trees d.book.rules (q ∷ []) (more r f none) ≡ true → f ≡ none
    no_kids f h =
        let below = (both (are_trees d.book.rules (children_of (slice_get d.book.rules r) q.0) f) _ (both (suits (slice_get d.book.rules r) q) _ h).1).0 in
        go f (ap (λ qs. are_trees d.book.rules qs f) (sym (kids ∙ end_here)) ∙ below)
      where
        go : (f : Forest) → are_trees d.book.rules [] f ≡ true → f ≡ none
        go none h = refl
        go (more r f rest) h = absurd (cc)

    leaf_leaves : leaves d.book.rules p (q ∷ []) (more r none none) ≡ x ∷ []
    leaf_leaves = top_leaves d p q r none ∙ (λ i. leaf_of_ending i ++ leaves d.book.rules p ((kids ∙ end_here) i) none)
      where
        leaf_of_ending : leaves_at (slice_get d.book.rules r) p q.0 ≡ x ∷ []
        leaf_of_ending = ap (λ o. leaves_at o p q.0) at ∙ leaf

    leaf_key : ◌≡◌ {A = Key} (forest_cost d p (q ∷ []) (more r none none), preorder (more r none none)) (rule.weight + charges d.book (in_bar d.bar (x ∷ [])) d.chords, r ∷ [])
    leaf_key =
        let cost = top_cost d p q r none in
        let own : weight_of (slice_get d.book.rules r) ≡ rule.weight = ap weight_of at in
        let nothing : weights d.book [] ≡ 0 = refl in
        let parts = ap (λ l. charges d.book (in_bar d.bar l) d.chords) (sym (top_leaves d p q r none) ∙ leaf_leaves) in
        let all : forest_cost d p (q ∷ []) (more r none none) ≡ rule.weight + charges d.book (in_bar d.bar (x ∷ [])) d.chords = omega (arith, cost, own, nothing, parts) in
        λ i. (all i, r ∷ [])

    pub leaf-least : (fit : Bool) → (fit ≡ true → (has_shapes pin none ≡ true) × FitsAt d.book.resolution d.bar d.chords d.before p (x ∷ []) a b)
        → (fit ≡ false → has_shapes pin none ≡ true → FitsAt d.book.resolution d.bar d.chords d.before p (x ∷ []) a b → ⊥)
        → IsLeastKey (IsRuleKey d pin p q r a b) (if fit then Some (rule.weight + charges d.book (in_bar d.bar (x ∷ [])) d.chords, r ∷ []) else None)
    leaf-least true h g = (
      (
        none,
        record {
          trees = three (suits (slice_get d.book.rules r) q) (are_trees d.book.rules (children_of (slice_get d.book.rules r) q.0) none) suited (ap (λ qs. are_trees d.book.rules qs none) (kids ∙ end_here));
          shaped = top_shape pin r none ∙ (h refl).0;
          fits = subst (λ l. FitsAt d.book.resolution d.bar d.chords d.before p l a b) (sym leaf_leaves) (h refl).1;
        },
        sym leaf_key,
      ),
      first,
    )
      where
        first : (l : Key) → IsRuleKey d pin p q r a b l → is_before l (rule.weight + charges d.book (in_bar d.bar (x ∷ [])) d.chords, r ∷ []) ≡ false
        first l y =
            let bare = no_kids y.0 y.1.trees in
            ap (λ l. is_before l (rule.weight + charges d.book (in_bar d.bar (x ∷ [])) d.chords, r ∷ [])) (y.2 ∙ (λ i. (forest_cost d p (q ∷ []) (more r (bare i) none), preorder (more r (bare i) none))) ∙ leaf_key)
            ∙ itself keys_total (rule.weight + charges d.book (in_bar d.bar (x ∷ [])) d.chords, r ∷ [])
    leaf-least false h g = λ l y.
        let bare = no_kids y.0 y.1.trees in
        let own : StandsInBar d (one_shape pin) p (q ∷ []) (more r none none) a b = subst (λ f. StandsInBar d (one_shape pin) p (q ∷ []) (more r f none) a b) bare y.1 in
        g refl (sym (top_shape pin r none) ∙ own.shaped) (subst (λ l. FitsAt d.book.resolution d.bar d.chords d.before p l a b) leaf_leaves own.fits)
