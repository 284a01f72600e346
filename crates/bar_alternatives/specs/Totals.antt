-- What is offered for the whole bar: trees at their costs together with those before and after.
use Rattle.std.specs.Prelude.{◌≡◌, ℕ, zero, suc, ◌+◌, ◌/◌, ◌%◌, ◌<◌, List, [], ◌∷◌, map, slice_index_or, Option, Some, None}
use Rattle.rhythm_base.specs.BarInput.{BarInput}
use Rattle.rhythm_base.specs.Forest.{Tree}
use Rattle.rhythm_base.specs.Grammar.{Grammar}
use Rattle.rhythm_base.specs.Ranked.{Key, plus}
use Rattle.rhythm_base.specs.RuleTrees.{IsTold}
use Rattle.tree_laws.specs.Forests.{IsForestKey}
use Rattle.row_laws.specs.Grounds.{ground_of}
use Rattle.bar_alternatives.specs.BestTrees.{cost_at}
use Rattle.best_trees.specs.Firsts.{all_offered}

-- the keys after trees were offered, where both costs are there
abbrev pub totals_offered : ℕ → Option ℕ → Option ℕ → List Key → List Key → List Key
totals_offered count None last trees xs = xs
totals_offered count (Some first) None trees xs = xs
totals_offered count (Some first) (Some last) trees xs = all_offered count (map (plus (first + last, [])) trees) xs

-- after those of the pairs of counts with a number below n
abbrev pub totals_below : ℕ → List (Option ℕ) → List (Option ℕ) → List (List Key) → ℕ → List Key
totals_below count before after grid zero = []
totals_below count before after grid (suc n) =
    totals_offered count (cost_at before (n / 5)) (cost_at after (n % 5)) (slice_index_or grid n []) (totals_below count before after grid n)

unfoldable pub totals : ℕ → List (Option ℕ) → List (Option ℕ) → List (List Key) → List Key
totals count before after grid = totals_below count before after grid 25

-- the total of a tree of the whole bar with these counts, and its rule list
abbrev pub IsTotalAt : Grammar → BarInput → List (Option ℕ) → List (Option ℕ) → ℕ → ℕ → Key → Type 0
IsTotalAt g k before after a b key =
    (first : ℕ) × (last : ℕ) × (own : Key) × (cost_at before a ≡ Some first) × (cost_at after b ≡ Some last)
    × IsForestKey (ground_of g k) None 0 ((k.resolution, k.symbol) ∷ []) a b own × (key ≡ plus (first + last, []) own)

-- with some counts
abbrev pub IsTotal : Grammar → BarInput → List (Option ℕ) → List (Option ℕ) → Key → Type 0
IsTotal g k before after key = (a : ℕ) × (b : ℕ) × (a < 5) × (b < 5) × IsTotalAt g k before after a b key

-- the total of a key with the tree that its rule list tells
abbrev pub IsListed : Grammar → ℕ → Key → ℕ × Tree → Type 0
IsListed g symbol key a = (a.0 ≡ key.0) × IsTold g symbol key.1 a.1
