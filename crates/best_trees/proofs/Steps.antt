-- The steps of the search: what is best with one rule more, side by side, and over all intervals that are answered alike.
use Rattle.std.proofs.Common.{◌≡◌, ℕ, zero, suc, ◌<◌, ◌≤◌, ◌+◌, ◌^◌, ◌⊎◌, ◌==◌, inl, inr, Bool, true, false, List, [], ◌∷◌, length, map, refl, sym, ap, ◌∙◌, subst, arith}
use Rattle.std.specs.Prelude.{Option, Some, slice_get, if◌then◌else◌}
use Rattle.std.proofs.lemmas.Bool.Decides.{nat_tests}
use Rattle.rhythm_base.specs.declared.rule.Rule.{Rule}
use Rattle.rhythm_base.specs.Cost.{charge, charges, weights}
use Rattle.rhythm_base.specs.Forest.{Forest, none, more}
use Rattle.rhythm_base.specs.Grammar.{Grammar}
use Rattle.rhythm_base.specs.declared.inner.Inner.{Inner}
use Rattle.std.proofs.lemmas.List.Sums.{sum_by-cons}
use Rattle.rhythm_base.specs.Ranked.{Key, plus}
use Rattle.rhythm_base.specs.Bodies.{children, sizes}
use Rattle.rhythm_base.specs.Shape.{Shape}
use Rattle.rhythm_base.specs.Trees.{are_trees, leaf_of, suits}
use Rattle.tree_laws.specs.Forests.{AreWide, Ground, IsForestKey, IsGround, first_shape, forest_cost, has_shapes, one_shape, other_shapes}
use Rattle.path_laws.specs.Rows.{IsOneBelow}
use Rattle.tree_laws.proofs.ForestLemmas.{join_key, keys-parse, split_key}
use Rattle.path_laws.proofs.LeastKeys.{Both, last}
use Rattle.row_laws.specs.RuleKeys.{IsRuleKey}
use Rattle.row_laws.proofs.Bounds.{IsBounded, stands-cheap}
use Rattle.row_laws.proofs.RuleKeys.{cut-key}
use Rattle.best_trees.specs.Firsts.{AreFirstKeys, AreKeptKeys, offered, sums_offered}
use Rattle.best_trees.specs.Grids.{AreAllAddable, HasLists, joined_row, joined_below, ranking_at}
use Rattle.best_trees.specs.Nodes.{AreBestForests}
use Rattle.best_trees.proofs.Firsts.{IsTopped, first-joined, first-mapped, first-none, first-offered, first-same, plus_assoc, plus_nothing, topped-parse}
use Rattle.best_trees.proofs.Rules.{cut_back, rule_back, rule_there}

-- ---- one set more

module _ (W : ℕ → Key → Type 0) (n i : ℕ) (xs : List Key) where
  pub below-next : AreFirstKeys (λ k. IsOneBelow W i k ⊎ W i k) n xs → AreFirstKeys (IsOneBelow W (i + 1)) n xs
  below-next h = first-same (λ k. IsOneBelow W i k ⊎ W i k) (IsOneBelow W (i + 1)) n xs there back h
    where
      there : (k : Key) → IsOneBelow W i k ⊎ W i k → IsOneBelow W (i + 1) k
      there k (inl x) = (x.0, omega (arith, x.1), x.2)
      there k (inr w) = (i, omega arith, w)

      back : (k : Key) → IsOneBelow W (i + 1) k → IsOneBelow W i k ⊎ W i k
      back k x = elim (last x.0 i (omega (arith, x.1))) [ inl low ↦ inl (x.0, low, x.2) | inr same ↦ inr (subst (λ m. W m k) same x.2) ]

  pub below-skip : ((k : Key) → W i k → ⊥) → AreFirstKeys (IsOneBelow W i) n xs → AreFirstKeys (IsOneBelow W (i + 1)) n xs
  below-skip bare h = below-next (first-same (IsOneBelow W i) (λ k. IsOneBelow W i k ⊎ W i k) n xs (λ k x. inl x) (λ k s. elim s [ inl x ↦ x | inr w ↦ absurd (bare k w) ]) h)

-- none of the next sets has a key
pub below-jump : (W : ℕ → Key → Type 0) (n m i : ℕ) (xs : List Key) → ((j : ℕ) → i ≤ j → j < m + i → (k : Key) → W j k → ⊥) → AreFirstKeys (IsOneBelow W i) n xs → AreFirstKeys (IsOneBelow W (m + i)) n xs
below-jump W n zero i xs bare h = let same : i ≡ 0 + i = omega arith in subst (λ j. AreFirstKeys (IsOneBelow W j) n xs) same h
below-jump W n (suc m) i xs bare h =
    let next : m + (i + 1) ≡ suc m + i = omega arith in
    subst (λ j. AreFirstKeys (IsOneBelow W j) n xs) next
    (below-jump W n m (i + 1) xs (λ j from below. bare j (omega (arith, from)) (omega (arith, below))) (below-skip W n i xs (bare i (omega arith) (omega arith)) h))

pub below-none : (W : ℕ → Key → Type 0) (n : ℕ) → AreFirstKeys (IsOneBelow W 0) n []
below-none W n = first-none (IsOneBelow W 0) n (λ k x. absurd (omega (arith, x.1)))

pub first-kept : (S : Key → Type 0) (n : ℕ) (xs : List Key) → AreFirstKeys S n xs → AreKeptKeys n xs
first-kept S n xs h = record { in_order = h.in_order; few = h.few }

-- ---- one rule more

module _ (d : Ground) (pin : Option Shape) (p : ℕ) (q : ℕ × ℕ) (n i a b : ℕ) where
  abbrev Below : ℕ → Key → Type 0
  Below = IsOneBelow (λ r. IsRuleKey d pin p q r a b)

  pub cut-next : (rule : Rule) → slice_get d.book.rules i ≡ Some rule → suits (Some rule) q ≡ true → leaf_of rule.body p q.0 ≡ [] → (xs : List Key)
      → AreFirstKeys (λ k. Below i k ⊎ IsTopped (IsForestKey d pin p (children rule.body q.0) a b) (rule.weight, i ∷ []) k) n xs → AreFirstKeys (Below (i + 1)) n xs
  cut-next rule at suit cut xs h =
      below-next (λ r. IsRuleKey d pin p q r a b) n i xs
      (first-same (λ k. Below i k ⊎ IsTopped (IsForestKey d pin p (children rule.body q.0) a b) (rule.weight, i ∷ []) k) (λ k. Below i k ⊎ IsRuleKey d pin p q i a b k) n xs
      (λ k s. elim s [ inl x ↦ inl x | inr y ↦ inr (cut_back d pin p q i a b rule at suit cut k y) ])
      (λ k s. elim s [ inl x ↦ inl x | inr w ↦ inr (cut-key d pin p q i a b rule at suit cut k w) ])
      h)

  -- the rule of one tree alone
  pub one-next : (key : Key) (xs : List Key) → ((k : Key) → IsRuleKey d pin p q i a b k → k ≡ key) → IsRuleKey d pin p q i a b key → AreFirstKeys (Below i) n xs → AreFirstKeys (Below (i + 1)) n (offered n key xs)
  one-next key xs only own h =
      below-next (λ r. IsRuleKey d pin p q r a b) n i (offered n key xs)
      (first-same (λ k. Below i k ⊎ (k ≡ key)) (λ k. Below i k ⊎ IsRuleKey d pin p q i a b k) n (offered n key xs)
      (λ k s. elim s [ inl x ↦ inl x | inr is ↦ inr (subst (IsRuleKey d pin p q i a b) (sym is) own) ])
      (λ k s. elim s [ inl x ↦ inl x | inr w ↦ inr (only k w) ])
      (first-offered (Below i) n xs key h))

  pub rules-all : (xs : List Key) → AreFirstKeys (Below (length d.book.rules)) n xs → AreFirstKeys (IsForestKey d (one_shape pin) p (q ∷ []) a b) n xs
  rules-all xs h = first-same (Below (length d.book.rules)) (IsForestKey d (one_shape pin) p (q ∷ []) a b) n xs (rule_there d pin p q a b) (rule_back d pin p q a b) h

-- ---- trees side by side

-- one set more in a union
union-next : (W : ℕ → Key → Type 0) (U : Key → Type 0) (n i : ℕ) (xs : List Key) → AreFirstKeys (λ k. (U k ⊎ IsOneBelow W i k) ⊎ W i k) n xs → AreFirstKeys (λ k. U k ⊎ IsOneBelow W (i + 1) k) n xs
union-next W U n i xs h = first-same (λ k. (U k ⊎ IsOneBelow W i k) ⊎ W i k) (λ k. U k ⊎ IsOneBelow W (i + 1) k) n xs there back h
  where
    there : (k : Key) → (U k ⊎ IsOneBelow W i k) ⊎ W i k → U k ⊎ IsOneBelow W (i + 1) k
    there k (inl (inl u)) = inl u
    there k (inl (inr x)) = inr (x.0, omega (arith, x.1), x.2)
    there k (inr w) = inr (i, omega arith, w)

    back : (k : Key) → U k ⊎ IsOneBelow W (i + 1) k → (U k ⊎ IsOneBelow W i k) ⊎ W i k
    back k (inl u) = inl (inl u)
    back k (inr x) = elim (last x.0 i (omega (arith, x.1))) [ inl low ↦ inl (inr (x.0, low, x.2)) | inr same ↦ inr (subst (λ m. W m k) same x.2) ]

module _ (d : Ground) (ground : IsGround d) (n p : ℕ) (q : ℕ × ℕ) (qs : List (ℕ × ℕ)) (wide : AreWide (q ∷ qs)) (left right : List (List Key))
    (s : Option Shape)
    (own : AreBestForests d (first_shape s) n p (q ∷ []) left) (others : AreBestForests d (other_shapes s) n (p + q.0) qs right) where
  module _ (top : Key) (U : Key → Type 0) (old : List Key) (before : AreFirstKeys U n old) (a b : ℕ) (la : a < 5) (lb : b < 5) where
    -- a tree on the left, with the top before it, and others on the right, with m chords between them
    abbrev Meets : ℕ → Key → Type 0
    Meets m = Both (IsTopped (IsForestKey d (first_shape s) p (q ∷ []) a m) top) (IsForestKey d (other_shapes s) (p + q.0) qs m b)

    below : (m : ℕ) → m ≤ 5 → AreFirstKeys (λ k. U k ⊎ IsOneBelow Meets m k) n (joined_below n top left right a b old m)
    below zero lm = first-same U (λ k. U k ⊎ IsOneBelow Meets 0 k) n old (λ k u. inl u) (λ k t. elim t [ inl u ↦ u | inr x ↦ absurd (omega (arith, x.1)) ]) before
    below (suc m) lm =
        let next : m + 1 ≡ suc m = omega arith in
        let low : m < 5 = omega (arith, lm) in
        let all = joined_below n top left right a b old m in
        let firsts = map (plus top) (ranking_at left a m) in
        subst (λ j. AreFirstKeys (λ k. U k ⊎ IsOneBelow Meets j k) n (sums_offered n firsts (ranking_at right m b) all)) next
        (union-next Meets U n m (sums_offered n firsts (ranking_at right m b) all)
        (first-joined (λ k. U k ⊎ IsOneBelow Meets m k) (IsTopped (IsForestKey d (first_shape s) p (q ∷ []) a m) top) (IsForestKey d (other_shapes s) (p + q.0) qs m b) n firsts (ranking_at right m b)
        (first-mapped (IsForestKey d (first_shape s) p (q ∷ []) a m) n top (ranking_at left a m) (own a m la low)) (others m b low lb)
        (topped-parse (IsForestKey d (first_shape s) p (q ∷ []) a m) top (λ k l u v. keys-parse d (first_shape s) p (q ∷ []) a m m k l u v)) all (below m (omega (arith, lm)))))

    there : (k : Key) → IsOneBelow Meets 5 k → IsTopped (IsForestKey d s p (q ∷ qs) a b) top k
    there k (m, low, (t, y, (x, one, is), rest, sum)) =
        (plus x y, join_key d ground p q qs wide s a b (plus x y) (m, low, (x, y, one, rest, refl)), sum ∙ ap (λ z. plus z y) is ∙ plus_assoc top x y)

    back : (k : Key) → IsTopped (IsForestKey d s p (q ∷ qs) a b) top k → IsOneBelow Meets 5 k
    back k (z, f, is) = go (split_key d ground p q qs wide s a b z f)
      where
        go : IsOneBelow (λ m. Both (IsForestKey d (first_shape s) p (q ∷ []) a m) (IsForestKey d (other_shapes s) (p + q.0) qs m b)) 5 z → IsOneBelow Meets 5 k
        go (m, low, (x, y, one, rest, sum)) = (m, low, (plus top x, y, (x, one, refl), rest, is ∙ ap (plus top) sum ∙ sym (plus_assoc top x y)))

    -- what was there, and the trees side by side with the top before them
    pub forests-topped : AreFirstKeys (λ k. U k ⊎ IsTopped (IsForestKey d s p (q ∷ qs) a b) top k) n (joined_row n top left right a b old)
    unfolding joined_row
    forests-topped =
        first-same (λ k. U k ⊎ IsOneBelow Meets 5 k) (λ k. U k ⊎ IsTopped (IsForestKey d s p (q ∷ qs) a b) top k) n (joined_below n top left right a b old 5)
        (λ k t. elim t [ inl u ↦ inl u | inr x ↦ inr (there k x) ]) (λ k t. elim t [ inl u ↦ inl u | inr x ↦ inr (back k x) ]) (below 5 (omega arith))

  pub forests-joined : (all : List (List Key)) → HasLists (λ a b. joined_row n (0, []) left right a b []) all → AreBestForests d s n p (q ∷ qs) all
  forests-joined all is a b la lb =
      subst (AreFirstKeys (IsForestKey d s p (q ∷ qs) a b) n) (sym (is a b la lb))
      (first-same (λ k. ⊥ ⊎ IsTopped (IsForestKey d s p (q ∷ qs) a b) (0, []) k) (IsForestKey d s p (q ∷ qs) a b) n (joined_row n (0, []) left right a b [])
      (λ k t. elim t [ inl x ↦ absurd x | inr x ↦ subst (IsForestKey d s p (q ∷ qs) a b) (sym (x.2 ∙ plus_nothing x.0)) x.1 ])
      (λ k x. inr (k, x, sym (plus_nothing k)))
      (forests-topped (0, []) (λ k. ⊥) [] (first-none (λ k. ⊥) n (λ k x. x)) a b la lb))

nothing_charged : (g : Grammar) (cs : List Inner) → weights g [] + charges g [] cs ≡ 0
nothing_charged g [] = refl
nothing_charged g (c ∷ cs) = let more = sum_by-cons (λ c. charge g [] c.onset) c cs in let rest = nothing_charged g cs in omega (arith, more, rest)

-- no trees: what is carried in is carried out
nothing_there : (d : Ground) (s : Option Shape) (p a b : ℕ) (k : Key) → IsForestKey d s p [] a b k → (a ≡ b) × (k ≡ (0, []))
nothing_there d s p a b k (none, stands, is) = (stands.fits.leave, is ∙ (λ i. (nothing_charged d.book d.chords i, [])))
nothing_there d s p a b k (more r x rest, stands, is) = let wrong : false ≡ true = stands.trees in absurd (cc)

nothing_back : (d : Ground) (s : Option Shape) (p a b : ℕ) (k : Key) → has_shapes s none ≡ true → a < 5 → a ≡ b → k ≡ (0, []) → IsForestKey d s p [] a b k
nothing_back d s p a b k allowed la same is = (
  none,
  record { trees = refl; shaped = allowed; fits = record { runs = refl; leave = same; few_from = omega (arith, la); few_to = omega (arith, la, same) } },
  is ∙ sym (λ i. (nothing_charged d.book d.chords i, [])),
)

pub forests-nothing : (d : Ground) (s : Option Shape) (n p : ℕ) (grid : List (List Key)) → has_shapes s none ≡ true → HasLists (λ a b. if a == b then offered n (0, []) [] else []) grid
    → AreBestForests d s n p [] grid
forests-nothing d s n p grid allowed is a b la lb = subst (AreFirstKeys (IsForestKey d s p [] a b) n) (sym (is a b la lb)) (go (a == b) refl)
  where
    apart : (a == b) ≡ false → a ≡ b → ⊥
    apart e same = let on : (a == b) ≡ true = grind (arith, nat_tests, same) in absurd (cc)

    go : (t : Bool) → (a == b) ≡ t → AreFirstKeys (IsForestKey d s p [] a b) n (if t then offered n (0, []) [] else [])
    go true e =
        let same : a ≡ b = grind (arith, nat_tests) in
        first-same (λ k. ⊥ ⊎ (k ≡ (0, []))) (IsForestKey d s p [] a b) n (offered n (0, []) [])
        (λ k t. elim t [ inl x ↦ absurd x | inr is ↦ nothing_back d s p a b k allowed la same is ]) (λ k x. inr (nothing_there d s p a b k x).1)
        (first-offered (λ k. ⊥) n [] (0, []) (first-none (λ k. ⊥) n (λ k x. x)))
    go false e = first-none (IsForestKey d s p [] a b) n (λ k x. let same : a ≡ b = (nothing_there d s p a b k x).0 in apart e same)

-- where no trees have the shapes
pub forests-none : (d : Ground) (s : Option Shape) (n p : ℕ) (qs : List (ℕ × ℕ)) (grid : List (List Key)) → ((f : Forest) → are_trees d.book.rules qs f ≡ true → has_shapes s f ≡ true → ⊥) → HasLists (λ a b. []) grid
    → AreBestForests d s n p qs grid
forests-none d s n p qs grid bare is a b la lb =
    subst (AreFirstKeys (IsForestKey d s p qs a b) n) (sym (is a b la lb)) (first-none (IsForestKey d s p qs a b) n (λ k x. bare x.0 x.1.trees x.1.shaped))

-- ---- costs

pub forests-addable : (d : Ground) → IsGround d → IsBounded d → (s : Option Shape) (n p : ℕ) (qs : List (ℕ × ℕ)) (grid : List (List Key)) → AreWide qs → sizes qs ≤ d.book.resolution → AreBestForests d s n p qs grid → AreAllAddable grid
forests-addable d ground bounded s n p qs grid wide within h a b la lb = record { in_order = (h a b la lb).in_order; low = λ i k lt. low _ ((h a b la lb).are i k lt) }
  where
    low : (k : Key) → IsForestKey d s p qs a b k → k.0 < 2 ^ 62
    low k (f, stands, is) =
        let cheap : forest_cost d p qs f ≤ 3000000000 = stands-cheap d ground bounded s p qs f a b wide within stands in
        let same : k.0 ≡ forest_cost d p qs f = ap (λ (x : Key). x.0) is in
        omega (arith, cheap, same)
