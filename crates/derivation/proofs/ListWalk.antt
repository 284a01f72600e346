-- The leaves of trees as they are read off a rule list: one tree, by what its rule is, and the trees of the parts one after another.
use Rattle.std.proofs.Common.{◌≡◌, ℕ, ◌+◌, ◌/◌, ◌≤◌, ◌<◌, max, true, List, [], ◌∷◌, ◌++◌, drop, length, get_or, map, sum, refl, sym, ap, ◌∙◌, subst, inl, inr, arith, add-one, append-nil, append_assoc, drop-cons}
use Rattle.std.specs.Prelude.{◌⊎◌, Option, Some, None, slice_get}
use Rattle.std.proofs.Math.ListN.{drop_of_length-le}
use Rattle.std.proofs.lemmas.List.{map-append}
use Rattle.std.proofs.lemmas.List.Sums.{sum_by-cons}
use Rattle.rhythm_base.proofs.Sizes.{shares_le}
use Rattle.rhythm_base.specs.declared.rule.Body.{Body}
use Rattle.rhythm_base.specs.declared.rule.Ending.{Ending}
use Rattle.rhythm_base.specs.declared.rule.Rule.{Rule}
use Rattle.rhythm_base.specs.Bodies.{Cut, children, cut_of, cuts_or_ends, ending_of, equal, parts_of_cut, sizes, unequal}
use Rattle.rhythm_base.specs.Forest.{Forest, more, none, preorder}
use Rattle.rhythm_base.specs.Trees.{BarLeaf, are_trees, children_of, leaf_of, leaf_of_ending, leaves, leaves_at, suits}
use Rattle.tree_laws.proofs.Bars.{equal_sizes, unequal_sizes}
use Rattle.tree_laws.proofs.Ranks.{both}
use Rattle.derivation.specs.declared.leaf.TimedBar.{TimedBar}
use Rattle.derivation.specs.declared.leaf.TimedLeaf.{TimedLeaf}
use Rattle.derivation.specs.RuleLists.{AreRead}
use Rattle.derivation.specs.TimedLeaves.{timed_leaf}

-- ---- the widths of the parts

sum_of_widths : (qs : List (ℕ × ℕ)) → sum (map (λ (q : ℕ × ℕ). q.0) qs) ≡ sizes qs
sum_of_widths [] = refl
sum_of_widths (q ∷ qs) = sum_by-cons (λ x. x) q.0 (map (λ (q : ℕ × ℕ). q.0) qs) ∙ ap (λ n. q.0 + n) (sum_of_widths qs)

-- together the parts are at most as wide as the whole
cut_within : (c : Option Cut) (w : ℕ) → sizes (parts_of_cut c w) ≤ w
cut_within None w = omega arith
cut_within (Some (equal symbols)) w = rw (equal_sizes (w / max 1 (length symbols)) symbols) (shares_le (length symbols) w)
cut_within (Some (unequal parts)) w = rw (unequal_sizes (w / max 1 (sizes parts)) parts) (shares_le (sizes parts) w)

pub parts_within : (b : Body) (w : ℕ) → sizes (children b w) ≤ w
parts_within b w = cut_within (cut_of b) w

-- ---- one tree

module _ (rules : List Rule) where
  no_trees : (f : Forest) → are_trees rules [] f ≡ true → f ≡ none
  no_trees none h = refl
  no_trees (more r kids rest) h = absurd (cc)

  below_nothing : (p : ℕ) (f : Forest) → leaves rules p [] f ≡ []
  below_nothing p none = refl
  below_nothing p (more r kids rest) = refl

  -- a rule that is a leaf has no parts
  no_parts : (body : Body) (e : Ending) (w : ℕ) → ending_of body ≡ Some e → children body w ≡ []
  no_parts body e w is = go (cuts_or_ends body)
    where
      go : ((c : Cut) × (cut_of body ≡ Some c) × (ending_of body ≡ None)) ⊎ ((e : Ending) × (cut_of body ≡ None) × (ending_of body ≡ Some e)) → children body w ≡ []
      go (inl t) = let no : ◌≡◌ {A = Option Ending} None (Some e) = sym t.2 ∙ is in absurd (cc)
      go (inr t) = ap (λ c. parts_of_cut c w) t.1

module _ (rules : List Rule) (bar : TimedBar) (p w s : ℕ) where
  -- no tree has an empty list
  pub read-nothing : (list rest : List ℕ) (before after : List TimedLeaf) → length list ≡ 0 → AreRead rules bar p ((w, s) ∷ []) list rest before after
  read-nothing list rest before after empty = go
    where
      go : AreRead rules bar p ((w, s) ∷ []) list rest before after
      go none xs trees is = absurd (cc)
      go (more r kids others) xs trees is = absurd (omega (arith, ap length is, empty))

  module _ (list : List ℕ) (number : ℕ) (tail : List ℕ) (begins : list ≡ number ∷ tail) where
    -- no tree has a rule that is none of the grammar
    pub read-unknown : (rest : List ℕ) (before after : List TimedLeaf) → slice_get rules number ≡ None → AreRead rules bar p ((w, s) ∷ []) list rest before after
    read-unknown rest before after unknown = go
      where
        go : AreRead rules bar p ((w, s) ∷ []) list rest before after
        go none xs trees is = absurd (cc)
        go (more r kids others) xs trees is =
            let lists : r ∷ ((preorder kids ++ preorder others) ++ xs) ≡ number ∷ tail = is ∙ begins in
            let head : r ≡ number = cc in
            let suit = both (suits (slice_get rules r) (w, s)) _ trees in
            let no = subst (λ o. suits o (w, s) ≡ true) (ap (slice_get rules) head ∙ unknown) suit.0 in
            absurd (cc)

    module _ (rule : Rule) (found : slice_get rules number ≡ Some rule) where
      -- the one tree of the list: its rule, its parts, and what stands after them
      pub record Head (r : ℕ) (kids others : Forest) (xs : List ℕ) : Type 0 where
        pub rule_is : slice_get rules r ≡ Some rule
        pub parts : are_trees rules (children rule.body w) kids ≡ true
        pub alone : others ≡ none
        pub after : preorder kids ++ xs ≡ tail

      head : (r : ℕ) (kids others : Forest) (xs : List ℕ) → are_trees rules ((w, s) ∷ []) (more r kids others) ≡ true → preorder (more r kids others) ++ xs ≡ list → Head r kids others xs
      head r kids others xs trees is =
          let lists : r ∷ ((preorder kids ++ preorder others) ++ xs) ≡ number ∷ tail = is ∙ begins in
          let first : r ≡ number = cc in
          let rest : (preorder kids ++ preorder others) ++ xs ≡ tail = cc in
          let rule_is : slice_get rules r ≡ Some rule = ap (slice_get rules) first ∙ found in
          let suit = both (suits (slice_get rules r) (w, s)) _ trees in
          let below = both (are_trees rules (children_of (slice_get rules r) w) kids) _ suit.1 in
          let alone : others ≡ none = no_trees rules others below.1 in
          record {
            rule_is = rule_is;
            parts = subst (λ o. are_trees rules (children_of o w) kids ≡ true) rule_is below.0;
            alone = alone;
            after = ap (λ l. l ++ xs) (sym (append-nil (preorder kids))) ∙ ap (λ f. (preorder kids ++ preorder f) ++ xs) (sym alone) ∙ rest;
          }

      -- the leaves of the one tree
      its_leaves : (r : ℕ) (kids others : Forest) → slice_get rules r ≡ Some rule → leaves rules p ((w, s) ∷ []) (more r kids others) ≡ leaf_of rule.body p w ++ leaves rules p (children rule.body w) kids
      its_leaves r kids others rule_is =
          ap (λ l. leaves_at (slice_get rules r) p w ++ (leaves rules p (children_of (slice_get rules r) w) kids ++ l)) (below_nothing rules (p + w) others)
          ∙ ap (λ l. leaves_at (slice_get rules r) p w ++ l) (append-nil (leaves rules p (children_of (slice_get rules r) w) kids))
          ∙ ap (λ o. leaves_at o p w ++ leaves rules p (children_of o w) kids) rule_is

      -- a rule that is a leaf
      pub read-leaf : (e : Ending) (before after : List TimedLeaf) → ending_of rule.body ≡ Some e → after ≡ before ++ timed_leaf bar (record { ending = e; place = p; width = w }) ∷ [] → AreRead rules bar p ((w, s) ∷ []) list tail before after
      read-leaf e before after ends pushed = go
        where
          go : AreRead rules bar p ((w, s) ∷ []) list tail before after
          go none xs trees is = absurd (cc)
          go (more r kids others) xs trees is =
              let h = head r kids others xs trees is in
              let childless : children rule.body w ≡ [] = no_parts rules rule.body e w ends in
              let leaf : kids ≡ none = no_trees rules kids (subst (λ qs. are_trees rules qs kids ≡ true) childless h.parts) in
              let own : leaves rules p ((w, s) ∷ []) (more r kids others) ≡ record { ending = e; place = p; width = w } ∷ [] =
              its_leaves r kids others h.rule_is ∙ (λ i. leaf_of_ending (ends i) p w ++ leaves rules p (childless i) kids) ∙ ap (λ l. record { ending = e; place = p; width = w } ∷ l) (below_nothing rules p kids) in
              (sym h.after ∙ ap (λ f. preorder f ++ xs) leaf, pushed ∙ ap (λ l. before ++ map (timed_leaf bar) l) (sym own))

      -- a rule that cuts
      pub read-cut : (rest : List ℕ) (before after : List TimedLeaf) → ending_of rule.body ≡ None → AreRead rules bar p (children rule.body w) tail rest before after → AreRead rules bar p ((w, s) ∷ []) list rest before after
      read-cut rest before after cuts parts = go
        where
          go : AreRead rules bar p ((w, s) ∷ []) list rest before after
          go none xs trees is = absurd (cc)
          go (more r kids others) xs trees is =
              let h = head r kids others xs trees is in
              let read = parts kids xs h.parts h.after in
              let own : leaves rules p ((w, s) ∷ []) (more r kids others) ≡ leaves rules p (children rule.body w) kids =
              its_leaves r kids others h.rule_is ∙ ap (λ e. leaf_of_ending e p w ++ leaves rules p (children rule.body w) kids) cuts in
              (read.0, read.1 ∙ ap (λ l. before ++ map (timed_leaf bar) l) (sym own))

-- ---- the trees of the parts

-- the trees of the parts from number i on are still to be read, at unit q
abbrev pub AreLeft : List Rule → TimedBar → ℕ → List (ℕ × ℕ) → List ℕ → List TimedLeaf → ℕ → ℕ → List ℕ → List TimedLeaf → Type 0
AreLeft rules bar p parts list before i q rest after =
    (f : Forest) (xs : List ℕ) → are_trees rules parts f ≡ true → preorder f ++ xs ≡ list
    → (g : Forest) × (are_trees rules (drop i parts) g ≡ true) × (preorder g ++ xs ≡ rest)
    × (after ++ map (timed_leaf bar) (leaves rules q (drop i parts) g) ≡ before ++ map (timed_leaf bar) (leaves rules p parts f))

module _ (rules : List Rule) (bar : TimedBar) (p : ℕ) (parts : List (ℕ × ℕ)) (list : List ℕ) (before : List TimedLeaf) where
  pub all_left : AreLeft rules bar p parts list before 0 p list before
  all_left f xs trees is = (f, trees, is, refl)

  module _ (i q : ℕ) (rest : List ℕ) (after : List TimedLeaf) (left : AreLeft rules bar p parts list before i q rest after) where
    pub all_read : length parts ≤ i → AreRead rules bar p parts list rest before after
    all_read all f xs trees is =
        let h = left f xs trees is in
        let over : drop i parts ≡ [] = drop_of_length-le parts all in
        let none_left : h.0 ≡ none = no_trees rules h.0 (subst (λ qs. are_trees rules qs h.0 ≡ true) over h.1) in (
          sym h.2 ∙ ap (λ f. preorder f ++ xs) none_left,
          sym (append-nil after) ∙ ap (λ l. after ++ map (timed_leaf bar) l) (sym (below_nothing rules q h.0)) ∙ ap (λ qs. after ++ map (timed_leaf bar) (leaves rules q qs h.0)) (sym over) ∙ h.3,
        )

    pub one_read : (d : ℕ × ℕ) (v : ℕ) (rest' : List ℕ) (after' : List TimedLeaf) → i < length parts → v ≡ (get_or parts i d).0
        → ((symbol : ℕ) → AreRead rules bar q ((v, symbol) ∷ []) rest rest' after after') → AreLeft rules bar p parts list before (i + 1) (q + v) rest' after'
    one_read d v rest' after' within width read f xs trees is =
        let h = left f xs trees is in
        let x : ℕ × ℕ = get_or parts i d in
        let split : drop i parts ≡ (v, x.1) ∷ drop (i + 1) parts = drop-cons parts i d within ∙ (λ j. (sym width j, x.1) ∷ drop (sym (add-one i) j) parts) in
        go x.1 h.0 (subst (λ qs. are_trees rules qs h.0 ≡ true) split h.1) h.2 (ap (λ qs. after ++ map (timed_leaf bar) (leaves rules q qs h.0)) (sym split) ∙ h.3)
      where
        go : (symbol : ℕ) (g : Forest) → are_trees rules ((v, symbol) ∷ drop (i + 1) parts) g ≡ true → preorder g ++ xs ≡ rest
            → after ++ map (timed_leaf bar) (leaves rules q ((v, symbol) ∷ drop (i + 1) parts) g) ≡ before ++ map (timed_leaf bar) (leaves rules p parts f)
            → (g : Forest) × (are_trees rules (drop (i + 1) parts) g ≡ true) × (preorder g ++ xs ≡ rest')
            × (after' ++ map (timed_leaf bar) (leaves rules (q + v) (drop (i + 1) parts) g) ≡ before ++ map (timed_leaf bar) (leaves rules p parts f))
        go symbol none trees is made = absurd (cc)
        go symbol (more r kids others) trees is made =
            let suit = both (suits (slice_get rules r) (v, symbol)) _ trees in
            let below = both (are_trees rules (children_of (slice_get rules r) v) kids) _ suit.1 in
            let own : are_trees rules ((v, symbol) ∷ []) (more r kids none) ≡ true = rw (suit.0, below.0) refl in
            let first : preorder (more r kids none) ++ (preorder others ++ xs) ≡ rest =
            ap (λ l. l ++ (preorder others ++ xs)) (append-nil (r ∷ preorder kids)) ∙ sym (append_assoc (r ∷ preorder kids) (preorder others) xs) ∙ is in
            let one = read symbol (more r kids none) (preorder others ++ xs) own first in
            let mine : List BarLeaf = leaves rules q ((v, symbol) ∷ []) (more r kids none) in
            let theirs : List BarLeaf = leaves rules (q + v) (drop (i + 1) parts) others in
            let here : List BarLeaf = leaves_at (slice_get rules r) q v in
            let under : List BarLeaf = leaves rules q (children_of (slice_get rules r) v) kids in
            let all : mine ++ theirs ≡ leaves rules q ((v, symbol) ∷ drop (i + 1) parts) (more r kids others) =
            ap (λ l. (here ++ l) ++ theirs) (append-nil under) ∙ append_assoc here under theirs in (
              others,
              below.1,
              sym one.0,
              ap (λ l. l ++ map (timed_leaf bar) theirs) one.1 ∙ append_assoc after (map (timed_leaf bar) mine) (map (timed_leaf bar) theirs)
                  ∙ ap (λ l. after ++ l) (sym (map-append (timed_leaf bar) mine theirs)) ∙ ap (λ l. after ++ map (timed_leaf bar) l) all ∙ made,
            )

-- the part of number i, and the parts after it
pub part_and_rest : (parts : List (ℕ × ℕ)) (i : ℕ) (d : ℕ × ℕ) → i < length parts → (get_or parts i d).0 + sizes (drop (i + 1) parts) ≡ sizes (drop i parts)
part_and_rest parts i d within = ap (λ n. (get_or parts i d).0 + sizes (drop n parts)) (add-one i) ∙ ap sizes (sym (drop-cons parts i d within))
