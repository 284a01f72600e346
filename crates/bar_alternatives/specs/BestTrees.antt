-- The best trees of a bar between the costs of what lies before it and after it.
use Rattle.std.specs.Prelude.{◌≡◌, ◌⊎◌, ℕ, ◌+◌, ◌^◌, ◌<◌, ◌≤◌, List, length, slice_index_or, Option, Some, None, All, AllPairs, Contains}
use Rattle.tree_laws.specs.Alternatives.{IsEarlier}
use Rattle.rhythm_base.specs.BarInput.{BarInput}
use Rattle.rhythm_base.specs.Cells.{CellFits, cell_cost}
use Rattle.rhythm_base.specs.Forest.{Tree}
use Rattle.rhythm_base.specs.Grammar.{Grammar}

-- the bar with its pin lifted
abbrev pub unpinned : BarInput → BarInput
unpinned k = record k { pin = None }

-- the cost for a number of chords carried, where there is one
abbrev pub cost_at : List (Option ℕ) → ℕ → Option ℕ
cost_at costs n = slice_index_or costs n None

-- A tree that fits the bar with counts for which a cost before and a cost after are there; with the sum of these two and of
-- the tree's own.
pub record IsLookedAt (g : Grammar) (k : BarInput) (before after : List (Option ℕ)) (a : ℕ × Tree) : Type 0 where
  pub from : ℕ
  pub to : ℕ
  pub fits : CellFits g k a.1 from to
  pub first : ℕ
  pub last : ℕ
  pub there_before : cost_at before from ≡ Some first
  pub there_after : cost_at after to ≡ Some last
  pub total : a.0 ≡ first + cell_cost g k a.1 + last

-- the first `count` of these trees, each once and in order; fewer where there are no more
pub record AreBestTrees (g : Grammar) (k : BarInput) (before after : List (Option ℕ)) (count : ℕ) (list : List (ℕ × Tree)) : Type 0 where
  pub are : All (IsLookedAt g k before after) list
  pub in_order : AllPairs IsEarlier list
  pub few : length list ≤ count
  pub first :
      (a : ℕ × Tree) → IsLookedAt g k before after a
      → Contains list a ⊎ ((length list ≡ count) × All (λ b. IsEarlier b a) list)

-- the costs that are there are small enough to be added up
abbrev pub AreSmall : List (Option ℕ) → Type 0
AreSmall costs = (n c : ℕ) → cost_at costs n ≡ Some c → c < 2 ^ 60
