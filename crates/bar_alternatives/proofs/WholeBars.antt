-- The first of all totals, over the pairs of counts.
use Rattle.std.proofs.Common.{◌≡◌, ℕ, zero, suc, ◌+◌, ◌*◌, ◌/◌, ◌%◌, ◌<◌, ◌≤◌, ◌⊎◌, inl, inr, List, [], ◌∷◌, get_or, map, refl, sym, ap, ◌∙◌, subst, arith}
use Rattle.std.specs.Prelude.{Option, Some, None}
use Rattle.rhythm_base.specs.BarInput.{BarInput}
use Rattle.rhythm_base.specs.Grammar.{Grammar}
use Rattle.rhythm_base.specs.Ranked.{Key, plus}
use Rattle.tree_laws.specs.Forests.{IsForestKey}
use Rattle.path_laws.specs.Rows.{IsOneBelow}
use Rattle.row_laws.specs.Grounds.{ground_of}
use Rattle.bar_alternatives.specs.BestTrees.{cost_at}
use Rattle.best_trees.specs.Firsts.{AreFirstKeys, AreKeptKeys, all_offered}
use Rattle.best_trees.specs.Grids.{ranking_at}
use Rattle.best_trees.specs.BarTrees.{AreBestBarTrees}
use Rattle.bar_alternatives.specs.Totals.{IsTotal, IsTotalAt, totals, totals_below, totals_offered}
use Rattle.best_trees.proofs.Firsts.{first-same, first-topped}
use Rattle.best_trees.proofs.Grids.{pair_from, pair_to}
use Rattle.best_trees.proofs.Offers.{all-kept}
use Rattle.best_trees.proofs.Steps.{below-next, below-none}

-- ---- offers

pub totals-kept : (count : ℕ) (first last : Option ℕ) (trees xs : List Key) → AreKeptKeys count xs → AreKeptKeys count (totals_offered count first last trees xs)
totals-kept count None last trees xs h = h
totals-kept count (Some f) None trees xs h = h
totals-kept count (Some f) (Some l) trees xs h = all-kept count (map (plus (f + l, [])) trees) xs h

pub totals-next : (count : ℕ) (before after : List (Option ℕ)) (grid : List (List Key)) (n : ℕ) (first last : Option ℕ) (trees old new : List Key)
    → first ≡ cost_at before (n / 5) → last ≡ cost_at after (n % 5) → trees ≡ ranking_at grid (n / 5) (n % 5) → old ≡ totals_below count before after grid n → new ≡ totals_offered count first last trees old
    → new ≡ totals_below count before after grid (n + 1)
totals-next count before after grid n first last trees old new one two own so_far is =
    let next : suc n ≡ n + 1 = omega arith in
    let whole : 5 * (n / 5) + n % 5 ≡ n = omega arith in
    is ∙ (λ i. totals_offered count (one i) (two i) ((own ∙ ap (λ m. get_or grid m []) whole) i) (so_far i)) ∙ ap (totals_below count before after grid) next

pub totals-all : (count : ℕ) (before after : List (Option ℕ)) (grid : List (List Key)) (best : List Key) (n : ℕ) → n ≡ 25 → best ≡ totals_below count before after grid n → best ≡ totals count before after grid
unfolding totals
totals-all count before after grid best n all is = is ∙ ap (totals_below count before after grid) all

-- ---- the first totals

module _ (g : Grammar) (k : BarInput) (before after : List (Option ℕ)) (count : ℕ) (grid : List (List Key)) (best : AreBestBarTrees g k None count grid) where
  abbrev At : ℕ → Key → Type 0
  At i = IsTotalAt g k before after (i / 5) (i % 5)

  abbrev Own : ℕ → Key → Type 0
  Own i = IsForestKey (ground_of g k) None 0 ((k.resolution, k.symbol) ∷ []) (i / 5) (i % 5)

  own_best : (i : ℕ) → i < 25 → AreFirstKeys (Own i) count (get_or grid i [])
  own_best i low =
      let whole : 5 * (i / 5) + i % 5 ≡ i = omega arith in
      subst (λ n. AreFirstKeys (Own i) count (get_or grid n [])) whole (best (i / 5) (i % 5) (omega (arith, low)) (omega (arith, low)))

  step : (i : ℕ) (first last : Option ℕ) (xs : List Key) → i < 25 → cost_at before (i / 5) ≡ first → cost_at after (i % 5) ≡ last → AreFirstKeys (IsOneBelow At i) count xs
      → AreFirstKeys (λ key. IsOneBelow At i key ⊎ At i key) count (totals_offered count first last (get_or grid i []) xs)
  step i None last xs low one two h =
      first-same (IsOneBelow At i) (λ key. IsOneBelow At i key ⊎ At i key) count xs (λ key x. inl x)
      (λ key s. elim s [ inl x ↦ x | inr w ↦ let wrong : None ≡ Some w.0 = sym one ∙ w.3 in absurd (cc) ]) h
  step i (Some f) None xs low one two h =
      first-same (IsOneBelow At i) (λ key. IsOneBelow At i key ⊎ At i key) count xs (λ key x. inl x)
      (λ key s. elim s [ inl x ↦ x | inr w ↦ let wrong : None ≡ Some w.1 = sym two ∙ w.4 in absurd (cc) ]) h
  step i (Some f) (Some l) xs low one two h =
      first-same (λ key. IsOneBelow At i key ⊎ ((y : Key) × Own i y × (key ≡ plus (f + l, []) y))) (λ key. IsOneBelow At i key ⊎ At i key) count (all_offered count (map (plus (f + l, [])) (get_or grid i [])) xs)
      (λ key s. elim s [ inl x ↦ inl x | inr y ↦ inr (f, l, y.0, one, two, y.1, y.2) ])
      (λ key s. elim s [ inl x ↦ inl x | inr w ↦ inr (back key w) ])
      (first-topped (IsOneBelow At i) (Own i) count (f + l, []) (get_or grid i []) xs (own_best i low) h)
    where
      back : (key : Key) → At i key → (y : Key) × Own i y × (key ≡ plus (f + l, []) y)
      back key (first, last, own, there, further, tree, is) =
          let left : Some first ≡ Some f = sym there ∙ one in
          let right : Some last ≡ Some l = sym further ∙ two in
          let same : first ≡ f = cc in
          let same' : last ≡ l = cc in
          (own, tree, is ∙ (λ j. plus (same j + same' j, []) own))

  below : (n : ℕ) → n ≤ 25 → AreFirstKeys (IsOneBelow At n) count (totals_below count before after grid n)
  below zero low = below-none At count
  below (suc n) low =
      let next : n + 1 ≡ suc n = omega arith in
      subst (λ j. AreFirstKeys (IsOneBelow At j) count (totals_below count before after grid (suc n))) next
      (below-next At count n (totals_below count before after grid (suc n))
      (step n (cost_at before (n / 5)) (cost_at after (n % 5)) (totals_below count before after grid n) (omega (arith, low)) refl refl (below n (omega (arith, low)))))

  pub totals-first : AreFirstKeys (IsTotal g k before after) count (totals count before after grid)
  unfolding totals
  totals-first = first-same (IsOneBelow At 25) (IsTotal g k before after) count (totals_below count before after grid 25) there back (below 25 (omega arith))
    where
      there : (key : Key) → IsOneBelow At 25 key → IsTotal g k before after key
      there key x = let low = x.1 in (x.0 / 5, x.0 % 5, omega (arith, low), omega (arith, low), x.2)

      back : (key : Key) → IsTotal g k before after key → IsOneBelow At 25 key
      back key (a, b, la, lb, w) =
          let P : ℕ → ℕ → Type 0 = λ a b. IsTotalAt g k before after a b key in
          (5 * a + b, omega (arith, la, lb), subst (λ n. P n ((5 * a + b) % 5)) (sym (pair_from a b lb)) (subst (P a) (sym (pair_to a b lb)) w))
