-- The trees of an interval are those of a list, and so are the derivations of bars.
use Rattle.std.proofs.Common.{◌≡◌, ℕ, zero, suc, ◌≤◌, ◌<◌, ◌⊎◌, ◌&&◌, Bool, true, false, List, [], ◌∷◌, ◌++◌, map, length, Some, None, Option, sym, subst, arith, inl, inr}
use Rattle.std.specs.Prelude.{Contains, slice_get, ◌==◌}
use Rattle.std.proofs.lemmas.Bool.{and_from, and_parts, cases_Bool, cases_eq}
use Rattle.std.proofs.lemmas.List.Elements.{Contains-append_left, Contains-append_right}
use Rattle.rhythm_base.specs.declared.rule.Body.{Body}
use Rattle.rhythm_base.specs.declared.rule.Rule.{Rule}
use Rattle.rhythm_base.specs.Bodies.{can_cut, children}
use Rattle.rhythm_base.specs.Forest.{Forest, Tree, more, none}
use Rattle.rhythm_base.specs.Grammar.{Grammar}
use Rattle.rhythm_base.specs.Leaves.{VoiceBar, are_bars}
use Rattle.rhythm_base.specs.Shape.{Shape}
use Rattle.rhythm_base.specs.Trees.{are_trees, children_of, is_tree, suits}
use Rattle.tree_laws.specs.Shares.{AreBelow}
use Rattle.tree_laws.proofs.Shares.{children-below}
use Rattle.answer_laws.proofs.FiniteSets.{IsWithinList, member_first, member_products, products}
use Rattle.kern_writer.proofs.Merging.{contains_map}

abbrev tree : ℕ → Forest → Tree
tree r kids = record { rule = r; kids = kids }

abbrev beside : Tree → Forest → Forest
beside t rest = more t.rule t.kids rest

module _ (rules : List Rule) where
  abbrev AllForests : List (ℕ × ℕ) → Type 0
  AllForests qs = IsWithinList {X = Forest} (λ f. are_trees rules qs f ≡ true)

  -- the rule of the tree is one of the symbol, and its parts are trees of the rule's symbols
  abbrev is_topped : ℕ × ℕ → Tree → Bool
  is_topped q t = suits (slice_get rules t.rule) q && are_trees rules (children_of (slice_get rules t.rule) q.0) t.kids

  abbrev AllTrees : ℕ × ℕ → Type 0
  AllTrees q = IsWithinList {X = Tree} (λ t. is_topped q t ≡ true)

  no_trees : AllForests []
  no_trees = (none ∷ [], one)
    where
      one : (f : Forest) → are_trees rules [] f ≡ true → Contains (none ∷ []) f
      one none is = member_first none []
      one (more r kids rest) is = cc

  one_more : (q : ℕ × ℕ) (qs : List (ℕ × ℕ)) → AllTrees q → AllForests qs → AllForests (q ∷ qs)
  one_more q qs first others = (products beside first.0 others.0, each)
    where
      each : (f : Forest) → are_trees rules (q ∷ qs) f ≡ true → Contains (products beside first.0 others.0) f
      each none is = cc
      each (more r kids rest) is =
          let top = and_parts (suits (slice_get rules r) q) _ is in
          let below = and_parts (are_trees rules (children_of (slice_get rules r) q.0) kids) _ top.1 in
          member_products beside first.0 others.0 (tree r kids) rest (first.1 (tree r kids) (and_from _ _ top.0 below.0)) (others.1 rest below.1)

  -- ---- trees by the rule on top

  within : (rs : List Rule) (r : ℕ) (q : ℕ × ℕ) → suits (slice_get rs r) q ≡ true → r < length rs
  within [] r q is = cc
  within (x ∷ rs) zero q is = omega arith
  within (x ∷ rs) (suc r) q is = omega (arith, within rs r q is)

  -- what can stand below a rule
  abbrev HasBelow : ℕ × ℕ → Type 0
  HasBelow q = (b : Body) → can_cut b q.0 ≡ true → AllForests (children b q.0)

  below_rule : (o : Option Rule) (q : ℕ × ℕ) → HasBelow q → suits o q ≡ true → AllForests (children_of o q.0)
  below_rule None q below is = cc
  below_rule (Some rule) q below is = below rule.body (and_parts (rule.lhs == q.1) _ is).1

  of_rule : (q : ℕ × ℕ) (n : ℕ) (own : AllForests (children_of (slice_get rules n) q.0)) (t : Tree) → n ≡ t.rule → is_topped q t ≡ true
      → Contains (map (tree n) own.0) t
  of_rule q n own t same is =
      let fits : are_trees rules (children_of (slice_get rules n) q.0) t.kids ≡ true =
      subst (λ r. are_trees rules (children_of (slice_get rules r) q.0) t.kids ≡ true) (sym same) (and_parts (suits (slice_get rules t.rule) q) _ is).1 in
      subst (λ r. Contains (map (tree n) own.0) (tree r t.kids)) same (contains_map (tree n) own.0 t.kids (own.1 t.kids fits))

  abbrev ToppedBelow : ℕ × ℕ → ℕ → Type 0
  ToppedBelow q n = IsWithinList {X = Tree} (λ t. (t.rule < n) × (is_topped q t ≡ true))

  topped : (q : ℕ × ℕ) → HasBelow q → (n : ℕ) → ToppedBelow q n
  topped q below zero = ([], λ t is. absurd (omega (arith, is.0)))
  topped q below (suc n) = go (cases_Bool (suits (slice_get rules n) q)) (topped q below n)
    where
      go : (suits (slice_get rules n) q ≡ true) ⊎ (suits (slice_get rules n) q ≡ false) → ToppedBelow q n → ToppedBelow q (suc n)
      go (inl fits) rest =
          let own = below_rule (slice_get rules n) q below fits in (
            map (tree n) own.0 ++ rest.0,
            λ t is. elim (cases_eq n t.rule) [
              | inl same ↦ Contains-append_left (map (tree n) own.0) rest.0 t (of_rule q n own t same is.1)
              | inr other ↦ Contains-append_right (map (tree n) own.0) rest.0 t (rest.1 t (omega (arith, is.0, other), is.1))
            ],
          )
      go (inr never) rest = (
        rest.0,
        λ t is. elim (cases_eq n t.rule) [
          | inl same ↦
              let fits : suits (slice_get rules n) q ≡ true =
              subst (λ r. suits (slice_get rules r) q ≡ true) (sym same) (and_parts (suits (slice_get rules t.rule) q) _ is.1).0 in
              absurd (cc)
          | inr other ↦ rest.1 t (omega (arith, is.0, other), is.1)
        ],
      )

  trees_over : (q : ℕ × ℕ) → HasBelow q → AllTrees q
  trees_over q below =
      let all = topped q below (length rules) in
      (all.0, λ t is. all.1 t (within rules t.rule q (and_parts (suits (slice_get rules t.rule) q) _ is).0, is))

  -- ---- by the width: the parts of a cut are narrower than it

  forests_below : (w : ℕ) → ((q : ℕ × ℕ) → 1 ≤ q.0 → q.0 < w → AllTrees q) → (qs : List (ℕ × ℕ)) → AreBelow w qs → AllForests qs
  forests_below w trees [] below = no_trees
  forests_below w trees (q ∷ qs) below = one_more q qs (trees q below.0 below.1) (forests_below w trees qs below.2)

  trees_below : (w : ℕ) (q : ℕ × ℕ) → 1 ≤ q.0 → q.0 < w → AllTrees q
  trees_below zero q some less = absurd (omega (arith, less))
  trees_below (suc w) q some less =
      trees_over q
      (λ b cuts. forests_below q.0 (λ p low narrow. trees_below w p low (omega (arith, less, narrow))) (children b q.0) (children-below b q.0 some cuts))

  -- the trees of a bar
  pub bar_trees : (w symbol : ℕ) (pin : Option Shape) → 1 ≤ w → IsWithinList {X = Tree} (λ t. is_tree rules w symbol pin t ≡ true)
  bar_trees w symbol pin some =
      let all = trees_below (suc w) (w, symbol) some (omega arith) in (
        all.0,
        λ t is.
            let whole = (and_parts (are_trees rules ((w, symbol) ∷ []) (more t.rule t.kids none)) _ is).0 in
            let top = and_parts (suits (slice_get rules t.rule) (w, symbol)) _ whole in
            let kids = and_parts (are_trees rules (children_of (slice_get rules t.rule) w) t.kids) _ top.1 in
            all.1 t (and_from _ _ top.0 kids.0),
      )

-- ---- derivations: a tree for each bar

abbrev pub AllDerivations : Grammar → List VoiceBar → Type 0
AllDerivations g bars = IsWithinList {X = List Tree} (λ ts. are_bars g bars ts ≡ true)

module _ (g : Grammar) where
  one_bar_more : (bar : VoiceBar) (bars : List VoiceBar) → IsWithinList {X = Tree} (λ t. is_tree g.rules g.resolution bar.symbol bar.pin t ≡ true)
      → AllDerivations g bars → AllDerivations g (bar ∷ bars)
  one_bar_more bar bars first others = (products ◌∷◌ first.0 others.0, each)
    where
      each : (ts : List Tree) → are_bars g (bar ∷ bars) ts ≡ true → Contains (products ◌∷◌ first.0 others.0) ts
      each [] is = cc
      each (t ∷ ts) is =
          let both = and_parts (is_tree g.rules g.resolution bar.symbol bar.pin t) _ is in
          member_products ◌∷◌ first.0 others.0 t ts (first.1 t both.0) (others.1 ts both.1)

  pub derivations : 1 ≤ g.resolution → (bars : List VoiceBar) → AllDerivations g bars
  derivations some [] = ([] ∷ [], one)
    where
      one : (ts : List Tree) → are_bars g [] ts ≡ true → Contains ([] ∷ []) ts
      one [] is = member_first [] []
      one (t ∷ ts) is = cc
  derivations some (bar ∷ bars) = one_bar_more bar bars (bar_trees g.rules g.resolution bar.symbol bar.pin some) (derivations some bars)
