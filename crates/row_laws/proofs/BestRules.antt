-- The choice between rules: by the leaf, and then by one cut after the other.
use Rattle.std.proofs.Common.{◌≡◌, ◌≢◌, ℕ, ◌<◌, ◌≤◌, ◌+◌, ◌*◌, ◌^◌, ◌==◌, ◌⊎◌, inl, inr, ◌||◌, ◌&&◌, nat_lt, Bool, true, false, List, [], ◌∷◌, length, refl, sym, ap, ◌∙◌, subst, arith}
use Rattle.std.specs.Prelude.{Option, Some, None, slice_get, if◌then◌else◌}
use Rattle.std.specs.Cmp.{nat_cmp_is, ranked}
use Rattle.std.specs.Ordering.{nat_cmp, ordering_then, is_lt}
use Rattle.std.specs.declared.cmp.Ordering.{Ordering}
use Rattle.std.specs.declared.cmp.Ordering.TheVariants.{Less, Equal, Greater}
use Rattle.std.proofs.lemmas.Bool.{cases_lt}
use Rattle.std.proofs.lemmas.Bool.Decides.{nat_tests}
use Rattle.rhythm_base.specs.BarInput.{BarInput}
use Rattle.rhythm_base.specs.Bodies.{children}
use Rattle.rhythm_base.specs.Cells.{bar_of}
use Rattle.rhythm_base.specs.Grammar.{Grammar}
use Rattle.rhythm_base.specs.Leaves.{looks}
use Rattle.rhythm_base.specs.Line.{agrees}
use Rattle.rhythm_base.specs.Lists.{last_end}
use Rattle.rhythm_base.specs.Ranked.{Key, is_before, list_cmp}
use Rattle.rhythm_base.specs.Trees.{BarLeaf, suits}
use Rattle.rhythm_base.specs.declared.rule.Ending.{Ending}
use Rattle.rhythm_base.specs.declared.rule.Rule.{Rule}
use Rattle.tree_laws.specs.Forests.{Ground}
use Rattle.tree_laws.specs.Places.{FitsAt, end_before}
use Rattle.path_laws.specs.Rows.{AreAlike, lists_cmp, same}
use Rattle.path_laws.specs.Tables.{IsLeastKey}
use Rattle.path_laws.proofs.Picks.{decides}
use Rattle.tree_laws.proofs.Ranks.{both}
use Rattle.tree_laws.proofs.Runs.{agrees-few}
use Rattle.row_laws.specs.BestRules.{AreBestOf, Choice, IsKeyOfRules, IsMarked, choice_key, is_nearer, leaf_choice, nearer_of, topped_of}
use Rattle.row_laws.specs.Grounds.{IsReady, ground_of}
use Rattle.row_laws.specs.LeafRules.{EndsInterval, HasNoLeafRule}
use Rattle.row_laws.specs.Leaves.{HasLeaf, IsCrowded, leaf_of_cell, next_ends, own_ends}
use Rattle.row_laws.specs.Rows.{AreLeastRow}
use Rattle.row_laws.specs.RuleKeys.{IsCutRule, IsRuleKey}
pub use Rattle.row_laws.proofs.LeafKeys.{IsLeafRuleOf, leaf_key}
use Rattle.row_laws.proofs.LeafKeys.{and_true, leaf_body, leaf_keys-least}
use Rattle.row_laws.proofs.Digits.{digits-cmp, digits-lt}
use Rattle.row_laws.proofs.Lower.{lower_of, on_top}
use Rattle.row_laws.proofs.RuleSets.{rules-all, rules-more, rules-same}
use Rattle.row_laws.proofs.RuleKeys.{leaf-least}

-- no leaf takes more than four chords
pub no_leaf-many : (g : Grammar) (symbol n : ℕ) (sounds : Bool) → 4 < n → HasNoLeafRule g symbol n sounds
no_leaf-many g symbol n sounds many r rule h = let few = agrees-few h.ending n sounds h.agree in absurd (omega (arith, few, many))

-- ---- leaves

same_order : (x y z w : ℕ) → x ≡ y → z ≡ w → ordering_then (nat_cmp x y) Equal ≡ ordering_then (nat_cmp z w) Equal
same_order x y z w e f = ap (λ o. ordering_then o Equal) (sym (nat_cmp_is x y Equal e) ∙ nat_cmp_is z w Equal f)

module _ (g : Grammar) (k : BarInput) (ready : IsReady g k) (p w symbol a : ℕ) (wide : 1 ≤ w) (within : p + w ≤ k.resolution) (low : a < 5) where
  abbrev leaf : Ending → BarLeaf
  leaf ending = record { ending = ending; place = p; width = w }

  -- a leaf fits where its ending agrees with the chords
  fits-runs : (ending : Ending) (b : ℕ) → FitsAt g.resolution (bar_of k) k.chords k.before p (leaf ending ∷ []) a b
      → (agrees ending (a + length (own_ends k p w)) ((looks k.resolution).sounds (leaf_of_cell k p w) (last_end (end_before k.resolution (bar_of k) k.chords k.before p) (own_ends k p w))) ≡ true)
      × (length (next_ends k p w) ≡ b)
  fits-runs ending b fits =
      let P : ℕ → Type 0 = λ r. FitsAt r (bar_of k) k.chords k.before p (leaf ending ∷ []) a b in
      let own = subst P ready.units fits in
      ((both _ _ own.runs).0, own.leave)

  module _ (own next cost : ℕ) (sounds : Bool) (here : HasLeaf g k p w own next sounds cost) where
    abbrev fit : Ending → ℕ → Bool
    fit ending b = agrees ending (a + own) sounds && (next == b)

    agrees-is : (ending : Ending) → agrees ending (a + own) sounds
        ≡ agrees ending (a + length (own_ends k p w)) ((looks k.resolution).sounds (leaf_of_cell k p w) (last_end (end_before k.resolution (bar_of k) k.chords k.before p) (own_ends k p w)))
    agrees-is ending = λ i. agrees ending (a + here.own_chords i) (here.sounds i)

    fits-agrees : (ending : Ending) (b : ℕ) → FitsAt g.resolution (bar_of k) k.chords k.before p (leaf ending ∷ []) a b → fit ending b ≡ true
    fits-agrees ending b fits =
        let run = fits-runs ending b fits in
        let out : next ≡ b = here.next_chords ∙ run.1 in
        and_true (agrees ending (a + own) sounds) (next == b) (agrees-is ending ∙ run.0) (grind (arith, nat_tests))

    agrees-fits : (ending : Ending) (b : ℕ) → b < 5 → fit ending b ≡ true → FitsAt g.resolution (bar_of k) k.chords k.before p (leaf ending ∷ []) a b
    agrees-fits ending b lb e =
        let P : ℕ → Type 0 = λ r. FitsAt r (bar_of k) k.chords k.before p (leaf ending ∷ []) a b in
        let t = both (agrees ending (a + own) sounds) (next == b) e in
        let out : next ≡ b = let same = t.1 in grind (arith, nat_tests) in
        subst P (sym ready.units) (record { runs = and_true _ true (sym (agrees-is ending) ∙ t.0) refl; leave = sym here.next_chords ∙ out; few_from = omega arith; few_to = omega arith })

    least : (o : Option (ℕ × ℕ)) → IsLeafRuleOf g symbol (a + own) sounds o → (b : ℕ) → b < 5 → IsLeastKey (IsKeyOfRules (ground_of g k) p (w, symbol) (EndsInterval g) a b) (leaf_key o next cost b)
    least = leaf_keys-least (ground_of g k) p w symbol a (a + own) next cost sounds fits-agrees agrees-fits (λ ending. here.charged)

    best-leaf-one : (o : Option (ℕ × ℕ)) → IsLeafRuleOf g symbol (a + own) sounds o → AreBestOf (ground_of g k) p (w, symbol) a (EndsInterval g) (leaf_key o next cost) (leaf_choice o next cost)
    best-leaf-one None empty = record { least = least None empty; alike = record { costs = λ b lb. tt; order = λ b c lb lc. refl }; marked = λ b lb. tt }
    best-leaf-one (Some x) best = record {
      least = least (Some x) best;
      alike = record { costs = λ b lb. costs (next == b); order = λ b c lb lc. order (next == b) (next == c) };
      marked = λ b lb. marked (next == b);
    }
      where
        costs : (t : Bool) → same (if t then Some (x.1 + cost, x.0 ∷ []) else None) (choice_key (if t then Some (x.1 + cost, x.0 * 2 ^ 48) else None))
        costs true = refl
        costs false = tt

        order : (t u : Bool) → lists_cmp (if t then Some (x.1 + cost, x.0 ∷ []) else None) (if u then Some (x.1 + cost, x.0 ∷ []) else None)
            ≡ lists_cmp (choice_key (if t then Some (x.1 + cost, x.0 * 2 ^ 48) else None)) (choice_key (if u then Some (x.1 + cost, x.0 * 2 ^ 48) else None))
        order true true = same_order x.0 x.0 (x.0 * 2 ^ 48) (x.0 * 2 ^ 48) refl refl
        order true false = refl
        order false u = refl

        marked : (t : Bool) → IsMarked (EndsInterval g) (if t then Some (x.1 + cost, x.0 * 2 ^ 48) else None) (if t then Some (x.1 + cost, x.0 ∷ []) else None)
        marked true = (x.0, 0, [], (best.rule, best.is.ending, best.is.at, best.is.ends), omega arith, omega arith, refl)
        marked false = tt

  pub best-leaf : (own next cost : ℕ) (sounds : Bool) → HasLeaf g k p w own next sounds cost → (o : Option (ℕ × ℕ)) → IsLeafRuleOf g symbol (a + own) sounds o
      → AreBestOf (ground_of g k) p (w, symbol) a (EndsInterval g) (leaf_key o next cost) (leaf_choice o next cost)
  best-leaf own next cost sounds here o best = best-leaf-one own next cost sounds here o best

  pub best-crowded : IsCrowded k p w → AreBestOf (ground_of g k) p (w, symbol) a (EndsInterval g) (λ b. None) (λ b. None)
  best-crowded many = record { least = λ b lb. empty b; alike = record { costs = λ b lb. tt; order = λ b c lb lc. refl }; marked = λ b lb. tt }
    where
      never : (ending : Ending) (b : ℕ) → FitsAt g.resolution (bar_of k) k.chords k.before p (leaf ending ∷ []) a b → ⊥
      never ending b fits =
          let run = fits-runs ending b fits in
          let few = agrees-few ending (a + length (own_ends k p w)) _ run.0 in
          let out = run.1 in
          let few_out : b ≤ 4 = fits.few_to in
          elim many [
            | inl own ↦ absurd (omega (arith, few, own))
            | inr next ↦ absurd (omega (arith, out, few_out, next))
          ]

      empty : (b : ℕ) (key : Key) → IsKeyOfRules (ground_of g k) p (w, symbol) (EndsInterval g) a b key → ⊥
      empty b key (r, (rule, ending, at, ends), h) =
          let on : suits (slice_get g.rules r) (w, symbol) ≡ true = (both (suits (slice_get g.rules r) (w, symbol)) _ h.1.trees).0 in
          let body = leaf_body rule.body ending p w ends in
          leaf-least (ground_of g k) None p (w, symbol) r a b rule at (subst (λ o. suits o (w, symbol) ≡ true) at on) (leaf ending) body.0 body.1 false
          (λ e. absurd (cc)) (λ e shaped fits. never ending b fits) key h

-- ---- one cut more

-- a choice and a key whose rules are these
abbrev IsOf : ℕ → Choice → Key → Type 0
IsOf r c k = (low : ℕ) × (list : List ℕ) × (low < 2 ^ 48) × (c.1 ≡ r * 2 ^ 48 + low) × (k.1 ≡ r ∷ list)

-- the rules on top differ
apart_order : (r s : ℕ) (c d : Choice) (k l : Key) → IsOf r c k → IsOf s d l → r ≢ s → list_cmp k.1 l.1 ≡ ordering_then (nat_cmp c.1 d.1) Equal
apart_order r s c d k l (low, list, few, order, is) (low', list', few', order', is') other =
    (λ i. list_cmp (is i) (is' i))
    ∙ go (nat_cmp r s) refl
    ∙ ap (λ o. ordering_then o Equal) (sym (digits-cmp (2 ^ 48) r low s low' few few') ∙ (λ i. nat_cmp (sym order i) (sym order' i)))
  where
    go : (o : Ordering) → nat_cmp r s ≡ o → ordering_then o (list_cmp list list') ≡ ordering_then (ordering_then o (nat_cmp low low')) Equal
    go Less e = refl
    go Equal e = absurd (other (ranked r s Equal (sym e)))
    go Greater e = refl

apart_before : (r s : ℕ) (c d : Choice) (k l : Key) → IsOf r c k → IsOf s d l → r ≢ s → k.0 ≡ c.0 → l.0 ≡ d.0 → is_before k l ≡ is_nearer c d
apart_before r s c d k l (low, list, few, order, is) (low', list', few', order', is') other ck dl =
    (λ i. is_lt (ordering_then (nat_cmp (ck i) (dl i)) (list_cmp (is i) (is' i))))
    ∙ ap (λ o. is_lt (ordering_then (nat_cmp c.0 d.0) o)) (sym (then_equal (nat_cmp r s)))
    ∙ decides c.0 d.0 r s (list_cmp list list') other
    ∙ ap (λ b. nat_lt c.0 d.0 || ((c.0 == d.0) && b)) (sym (digits-lt (2 ^ 48) r low s low' few few' other) ∙ (λ i. nat_lt (sym order i) (sym order' i)))
  where
    then_equal : (o : Ordering) → ordering_then (ordering_then o Equal) (list_cmp list list') ≡ ordering_then o (list_cmp list list')
    then_equal Less = refl
    then_equal Equal = refl
    then_equal Greater = refl

-- which of the two is taken, as choice and as key
abbrev Taken : Option Choice → Option Choice → Option Key → Option Key → Option Choice → Option Key → Type 0
Taken c d k l o u = ((o ≡ c) × (u ≡ k)) ⊎ ((o ≡ d) × (u ≡ l))

module _ (rules : ℕ → Type 0) (r : ℕ) (new : rules r → ⊥) where
  other_rule : (s : ℕ) → rules s → r ≢ s
  other_rule s h = λ e. new (subst rules (sym e) h)

  taken : (o u : Option Choice) (k l : Option Key) → same k (choice_key o) → same l (choice_key u) → IsMarked rules o k → IsMarked (λ s. s ≡ r) u l
      → Taken o u k l (nearer_of o u) (lower_of k l)
  taken o None k None h g m n = inl (refl, refl)
  taken o None k (Some l) h g m n = absurd g
  taken o (Some d) k None h g m n = absurd g
  taken None (Some d) None (Some l) h g m n = inr (refl, refl)
  taken None (Some d) (Some k) (Some l) h g m n = absurd h
  taken (Some c) (Some d) None (Some l) h g m n = absurd h
  taken (Some c) (Some d) (Some k) (Some l) h g m n =
      go (is_before l k) (is_nearer d c)
      (apart_before n.0 m.0 d c l k (n.1, n.2, n.4, n.5, n.6) (m.1, m.2, m.4, m.5, m.6) (subst (λ t. t ≢ m.0) (sym n.3) (other_rule m.0 m.3)) g h)
    where
      go : (p q : Bool) → p ≡ q → Taken (Some c) (Some d) (Some k) (Some l) (if q then Some d else Some c) (if p then Some l else Some k)
      go true true e = inr (refl, refl)
      go false false e = inl (refl, refl)
      go true false e = absurd (cc)
      go false true e = absurd (cc)

  -- a rule of the set, and the rule r
  crossed : (o u : Option Choice) (k l : Option Key) → same k (choice_key o) → same l (choice_key u) → IsMarked rules o k → IsMarked (λ s. s ≡ r) u l
      → (lists_cmp k l ≡ lists_cmp (choice_key o) (choice_key u)) × (lists_cmp l k ≡ lists_cmp (choice_key u) (choice_key o))
  crossed None None None None h g m n = (refl, refl)
  crossed None None (Some k) l h g m n = absurd h
  crossed None None None (Some l) h g m n = absurd g
  crossed None (Some d) (Some k) l h g m n = absurd h
  crossed None (Some d) None None h g m n = absurd g
  crossed None (Some d) None (Some l) h g m n = (refl, refl)
  crossed (Some c) None None l h g m n = absurd h
  crossed (Some c) None (Some k) (Some l) h g m n = absurd g
  crossed (Some c) None (Some k) None h g m n = (refl, refl)
  crossed (Some c) (Some d) None l h g m n = absurd h
  crossed (Some c) (Some d) (Some k) None h g m n = absurd g
  crossed (Some c) (Some d) (Some k) (Some l) h g m n =
      let other : n.0 ≢ m.0 = subst (λ t. t ≢ m.0) (sym n.3) (other_rule m.0 m.3) in (
        apart_order m.0 n.0 c d k l (m.1, m.2, m.4, m.5, m.6) (n.1, n.2, n.4, n.5, n.6) (λ e. other (sym e)),
        apart_order n.0 m.0 d c l k (n.1, n.2, n.4, n.5, n.6) (m.1, m.2, m.4, m.5, m.6) other,
      )

-- ---- a rule on top of what it cuts

module _ (weight r : ℕ) where
  topped_costs : (u : Option Key) (o : Option Choice) → same u (choice_key o) → same (on_top weight r u) (choice_key (topped_of weight r o))
  topped_costs None None h = tt
  topped_costs None (Some c) h = absurd h
  topped_costs (Some k) None h = absurd h
  topped_costs (Some k) (Some c) h = λ i. weight + h i

  topped_order : (u v : Option Key) (o w : Option Choice) → same u (choice_key o) → same v (choice_key w) → lists_cmp u v ≡ lists_cmp (choice_key o) (choice_key w)
      → ((c : Choice) → o ≡ Some c → c.1 < 2 ^ 48) → ((c : Choice) → w ≡ Some c → c.1 < 2 ^ 48)
      → lists_cmp (on_top weight r u) (on_top weight r v) ≡ lists_cmp (choice_key (topped_of weight r o)) (choice_key (topped_of weight r w))
  topped_order None v None w h g e s t = refl
  topped_order None v (Some c) w h g e s t = absurd h
  topped_order (Some k) v None w h g e s t = absurd h
  topped_order (Some k) None (Some c) None h g e s t = refl
  topped_order (Some k) None (Some c) (Some d) h g e s t = absurd g
  topped_order (Some k) (Some l) (Some c) None h g e s t = absurd g
  topped_order (Some k) (Some l) (Some c) (Some d) h g e s t =
      ap (ordering_then (nat_cmp r r)) e
      ∙ then_assoc (nat_cmp r r)
      ∙ ap (λ o. ordering_then o Equal) (sym (digits-cmp (2 ^ 48) r c.1 r d.1 (s c refl) (t d refl)))
    where
      then_assoc : (o : Ordering) → ordering_then o (ordering_then (nat_cmp c.1 d.1) Equal) ≡ ordering_then (ordering_then o (nat_cmp c.1 d.1)) Equal
      then_assoc Less = refl
      then_assoc Equal = refl
      then_assoc Greater = refl

  topped_marked : (u : Option Key) (o : Option Choice) → ((c : Choice) → o ≡ Some c → c.1 < 2 ^ 48) → IsMarked (λ s. s ≡ r) (topped_of weight r o) (on_top weight r u)
  topped_marked u None s = tt
  topped_marked None (Some c) s = tt
  topped_marked (Some k) (Some c) s = (r, c.1, k.1, refl, s c refl, refl, refl)

marked-wider : (rules others : ℕ → Type 0) → ((r : ℕ) → rules r → others r) → (o : Option Choice) (u : Option Key) → IsMarked rules o u → IsMarked others o u
marked-wider rules others there None u h = tt
marked-wider rules others there (Some c) None h = tt
marked-wider rules others there (Some c) (Some k) h = (h.0, h.1, h.2, there h.0 h.3, h.4, h.5, h.6)

-- one cut more
module _ (d : Ground) (p : ℕ) (q : ℕ × ℕ) (a : ℕ) (rules : ℕ → Type 0) (keys : ℕ → Option Key) (choices : ℕ → Option Choice) (best : AreBestOf d p q a rules keys choices)
    (r : ℕ) (rule : Rule) (cut : IsCutRule d.book q r rule) (new : rules r → ⊥) (row : ℕ → Option Key) (least : AreLeastRow d p (children rule.body q.0) a row)
    (fold : ℕ → Option Choice) (alike : AreAlike row (λ b. choice_key (fold b))) (short : (b : ℕ) (c : Choice) → b < 5 → fold b ≡ Some c → c.1 < 2 ^ 48) where
  abbrev top_key : ℕ → Option Key
  top_key b = on_top rule.weight r (row b)

  abbrev top_choice : ℕ → Option Choice
  top_choice b = topped_of rule.weight r (fold b)

  top_costs : (b : ℕ) → b < 5 → same (top_key b) (choice_key (top_choice b))
  top_costs b lb = topped_costs rule.weight r (row b) (fold b) (alike.costs b lb)

  top_marked : (b : ℕ) → b < 5 → IsMarked (λ s. s ≡ r) (top_choice b) (top_key b)
  top_marked b lb = topped_marked rule.weight r (row b) (fold b) (λ c e. short b c lb e)

  which : (b : ℕ) → b < 5 → Taken (choices b) (top_choice b) (keys b) (top_key b) (nearer_of (choices b) (top_choice b)) (lower_of (keys b) (top_key b))
  which b lb = taken rules r new (choices b) (top_choice b) (keys b) (top_key b) (best.alike.costs b lb) (top_costs b lb) (best.marked b lb) (top_marked b lb)

  across : (b c : ℕ) → b < 5 → c < 5 → (lists_cmp (keys b) (top_key c) ≡ lists_cmp (choice_key (choices b)) (choice_key (top_choice c))) × (lists_cmp (top_key c) (keys b) ≡ lists_cmp (choice_key (top_choice c)) (choice_key (choices b)))
  across b c lb lc = crossed rules r new (choices b) (top_choice c) (keys b) (top_key c) (best.alike.costs b lb) (top_costs c lc) (best.marked b lb) (top_marked c lc)

  top_order : (b c : ℕ) → b < 5 → c < 5 → lists_cmp (top_key b) (top_key c) ≡ lists_cmp (choice_key (top_choice b)) (choice_key (top_choice c))
  top_order b c lb lc = topped_order rule.weight r (row b) (row c) (fold b) (fold c) (alike.costs b lb) (alike.costs c lc) (alike.order b c lb lc) (λ x e. short b x lb e) (λ x e. short c x lc e)

  -- what was there stays, or the cut's takes its place
  pub best-which : (b : ℕ) → b < 5
      → ((nearer_of (choices b) (topped_of rule.weight r (fold b)) ≡ choices b) × (lower_of (keys b) (on_top rule.weight r (row b)) ≡ keys b))
      ⊎ ((nearer_of (choices b) (topped_of rule.weight r (fold b)) ≡ topped_of rule.weight r (fold b)) × (lower_of (keys b) (on_top rule.weight r (row b)) ≡ on_top rule.weight r (row b)))
  best-which b lb = which b lb

  pub best-cut : AreBestOf d p q a (λ s. rules s ⊎ (s ≡ r)) (λ b. lower_of (keys b) (on_top rule.weight r (row b))) (λ b. nearer_of (choices b) (topped_of rule.weight r (fold b)))
  best-cut = record {
    least = λ b lb. rules-more d p q a b rules r rule cut (keys b) (row b) (best.least b lb) (least b lb);
    alike = record {
      costs = λ b lb. elim (which b lb) [
        | inl h ↦ subst (λ o. same (lower_of (keys b) (top_key b)) (choice_key o)) (sym h.0) (subst (λ u. same u (choice_key (choices b))) (sym h.1) (best.alike.costs b lb))
        | inr h ↦ subst (λ o. same (lower_of (keys b) (top_key b)) (choice_key o)) (sym h.0) (subst (λ u. same u (choice_key (top_choice b))) (sym h.1) (top_costs b lb))
      ];
      order = λ b c lb lc. elim (which b lb) [
        | inl h ↦ elim (which c lc) [
          | inl g ↦ (λ j. lists_cmp (h.1 j) (g.1 j)) ∙ best.alike.order b c lb lc ∙ (λ j. lists_cmp (choice_key (sym h.0 j)) (choice_key (sym g.0 j)))
          | inr g ↦ (λ j. lists_cmp (h.1 j) (g.1 j)) ∙ (across b c lb lc).0 ∙ (λ j. lists_cmp (choice_key (sym h.0 j)) (choice_key (sym g.0 j)))
        ]
        | inr h ↦ elim (which c lc) [
          | inl g ↦ (λ j. lists_cmp (h.1 j) (g.1 j)) ∙ (across c b lc lb).1 ∙ (λ j. lists_cmp (choice_key (sym h.0 j)) (choice_key (sym g.0 j)))
          | inr g ↦ (λ j. lists_cmp (h.1 j) (g.1 j)) ∙ top_order b c lb lc ∙ (λ j. lists_cmp (choice_key (sym h.0 j)) (choice_key (sym g.0 j)))
        ]
      ];
    };
    marked = λ b lb. elim (which b lb) [
      | inl h ↦ subst (λ o. IsMarked (λ s. rules s ⊎ (s ≡ r)) o (lower_of (keys b) (top_key b))) (sym h.0) (subst (IsMarked (λ s. rules s ⊎ (s ≡ r)) (choices b)) (sym h.1) (marked-wider rules (λ s. rules s ⊎ (s ≡ r)) (λ s h. inl h) (choices b) (keys b) (best.marked b lb)))
      | inr h ↦ subst (λ o. IsMarked (λ s. rules s ⊎ (s ≡ r)) o (lower_of (keys b) (top_key b))) (sym h.0) (subst (IsMarked (λ s. rules s ⊎ (s ≡ r)) (top_choice b)) (sym h.1) (marked-wider (λ s. s ≡ r) (λ s. rules s ⊎ (s ≡ r)) (λ s h. inr h) (top_choice b) (top_key b) (top_marked b lb)))
    ];
  }

pub best-whole : (d : Ground) (p : ℕ) (q : ℕ × ℕ) (a : ℕ) (rules : ℕ → Type 0) (keys : ℕ → Option Key) (choices : ℕ → Option Choice) → AreBestOf d p q a rules keys choices
    → ((r : ℕ) → suits (slice_get d.book.rules r) q ≡ true → rules r) → AreLeastRow d p (q ∷ []) a keys
best-whole d p q a rules keys choices best whole b lb = rules-all d p q a b rules whole (keys b) (best.least b lb)

-- a key that costs more does not come before, nor one that costs as much whose list begins with a higher rule
pub dearer-after : (k x : Key) → x.0 < k.0 → is_before k x ≡ false
dearer-after k x h = sym (ap (λ o. is_lt (ordering_then o (list_cmp k.1 x.1))) (nat_cmp_is k.0 x.0 Greater h))

pub higher-after : (k x : Key) (r s : ℕ) (xs ys : List ℕ) → k.1 ≡ r ∷ xs → x.1 ≡ s ∷ ys → s < r → x.0 ≤ k.0 → is_before k x ≡ false
higher-after k x r s xs ys e f less cost = elim (cases_lt x.0 k.0) [
  | inl more ↦ dearer-after k x more
  | inr le ↦
      let same : k.0 ≡ x.0 = omega (arith, cost, le) in
      (λ i. is_lt (ordering_then (nat_cmp k.0 x.0) (list_cmp (e i) (f i))))
      ∙ sym (ap (λ o. is_lt (ordering_then o (list_cmp (r ∷ xs) (s ∷ ys)))) (nat_cmp_is k.0 x.0 Equal same))
      ∙ sym (ap (λ o. is_lt (ordering_then o (list_cmp xs ys))) (nat_cmp_is r s Greater less))
]

-- ---- the same choices

module _ (d : Ground) (p : ℕ) (q : ℕ × ℕ) (a : ℕ) (rules : ℕ → Type 0) (keys : ℕ → Option Key) (choices : ℕ → Option Choice) (best : AreBestOf d p q a rules keys choices) where
  -- of the same rules
  pub best-rules : (others : ℕ → Type 0) → ((r : ℕ) → rules r → others r) → ((r : ℕ) → others r → rules r) → AreBestOf d p q a others keys choices
  best-rules others there back = record {
    least = λ b lb. rules-same d p q a b rules others there back (keys b) (best.least b lb);
    alike = best.alike;
    marked = λ b lb. marked-wider rules others there (choices b) (keys b) (best.marked b lb);
  }

  -- said otherwise
  pub best-same : (others : ℕ → Option Choice) → ((b : ℕ) → b < 5 → choices b ≡ others b) → AreBestOf d p q a rules keys others
  best-same others is = record {
    least = best.least;
    alike = record {
      costs = λ b lb. subst (λ o. same (keys b) (choice_key o)) (is b lb) (best.alike.costs b lb);
      order = λ b c lb lc. best.alike.order b c lb lc ∙ (λ i. lists_cmp (choice_key (is b lb i)) (choice_key (is c lc i)));
    };
    marked = λ b lb. subst (λ o. IsMarked rules o (keys b)) (is b lb) (best.marked b lb);
  }

  -- a rule whose trees all come after what is there
  pub best-passed : (r : ℕ) → ((b : ℕ) (k : Key) → b < 5 → IsRuleKey d None p q r a b k → (x : Key) × (keys b ≡ Some x) × (is_before k x ≡ false)) → AreBestOf d p q a (λ s. rules s ⊎ (s ≡ r)) keys choices
  best-passed r over = record {
    least = λ b lb. least b lb (keys b) refl (best.least b lb);
    alike = best.alike;
    marked = λ b lb. marked-wider rules (λ s. rules s ⊎ (s ≡ r)) (λ s h. inl h) (choices b) (keys b) (best.marked b lb);
  }
    where
      least : (b : ℕ) → b < 5 → (o : Option Key) → keys b ≡ o → IsLeastKey (IsKeyOfRules d p q rules a b) o → IsLeastKey (IsKeyOfRules d p q (λ s. rules s ⊎ (s ≡ r)) a b) o
      least b lb None e h = λ k (s, on, key). elim on [
        | inl own ↦ h k (s, own, key)
        | inr is ↦ let x = over b k lb (subst (λ s. IsRuleKey d None p q s a b k) is key) in let no : ◌≡◌ {A = Option Key} None (Some x.0) = sym e ∙ x.1 in absurd (cc)
      ]
      least b lb (Some y) e h = ((h.0.0, inl h.0.1, h.0.2), first)
        where
          first : (k : Key) → IsKeyOfRules d p q (λ s. rules s ⊎ (s ≡ r)) a b k → is_before k y ≡ false
          first k (s, inl own, key) = h.1 k (s, own, key)
          first k (s, inr is, key) =
              let x = over b k lb (subst (λ s. IsRuleKey d None p q s a b k) is key) in
              let there : x.0 ≡ y = let one : Some x.0 ≡ Some y = sym x.1 ∙ e in cc in
              subst (λ y. is_before k y ≡ false) there x.2
