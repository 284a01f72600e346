-- The table of a cell: the least tree for each number of chords carried in and out.
use Rattle.rhythm_base.specs.declared.limits.TheConstants.{DEAREST_CELL}
use Rattle.std.specs.Prelude.{◌≡◌, ◌≢◌, ℕ, zero, suc, ◌+◌, ◌<◌, ◌≤◌, Bool, false, List, [], slice_index_or, Option, Some, None, if◌then◌else◌}
use Rattle.std.specs.Ordering.{is_lt, nat_cmp}
use Rattle.std.specs.Cmp.Lexicographic.{slice_cmp}
use Rattle.std.specs.declared.cmp.Ordering.TheVariants.{Less}
use Rattle.rhythm_base.specs.declared.best.Best.{Best}
use Rattle.rhythm_base.specs.BarInput.{BarInput}
use Rattle.rhythm_base.specs.Cells.{CellFits, cell_cost}
use Rattle.rhythm_base.specs.Forest.{Tree, preorder_of}
use Rattle.rhythm_base.specs.Least.{Rank, rank_cmp}
use Rattle.rhythm_base.specs.Paths.{IsRanked}
use Rattle.rhythm_base.specs.Ranked.{CarryMatrix, at}
use Rattle.rhythm_base.specs.Grammar.{Grammar}

-- costs and ranks, the rule list of each entry, and the input that they are for
pub record BarTable : Type 0 where
  pub matrix : CarryMatrix
  pub lists : List (List (Option (List ℕ)))
  pub input : BarInput

abbrev pub list_at : BarTable → ℕ → ℕ → Option (List ℕ)
list_at table from to = slice_index_or (slice_index_or table.lists from []) to None

abbrev pub is_lower : Option (List ℕ) → List ℕ → Bool
is_lower None x = false
is_lower (Some y) x = is_lt (slice_cmp nat_cmp y x)

-- how many of the first n entries of a row have a lower rule list
abbrev pub lower_in : BarTable → ℕ → List ℕ → ℕ → ℕ
lower_in table from x zero = 0
lower_in table from x (suc n) = (if is_lower (list_at table from n) x then 1 else 0) + lower_in table from x n

abbrev pub cell_rank : Grammar → BarInput → Tree → Rank
cell_rank g k t = (cell_cost g k t, preorder_of t)

-- the tree fits with these counts, and no other that does is earlier
pub record IsLeastInCell (g : Grammar) (k : BarInput) (t : Tree) (from to : ℕ) : Type 0 where
  pub fits : CellFits g k t from to
  pub first : (u : Tree) → CellFits g k u from to → rank_cmp (cell_rank g k u) (cell_rank g k t) ≢ Less

-- an entry is there exactly where some tree fits: the cost of the least one, its rule list, and the number of entries of its
-- row with a lower rule list
abbrev pub IsEntry : Grammar → BarTable → ℕ → ℕ → Option Best → Type 0
IsEntry g table from to None = (list_at table from to ≡ None) × ((t : Tree) → CellFits g table.input t from to → ⊥)
IsEntry g table from to (Some best) =
    (t : Tree) × IsLeastInCell g table.input t from to
    × (best.cost ≡ cell_cost g table.input t)
    × (list_at table from to ≡ Some (preorder_of t))
    × (best.rank ≡ lower_in table from (preorder_of t) 5)
    × (best.cost ≤ DEAREST_CELL)

-- it is the table of this grammar and its input
pub record IsTable (g : Grammar) (table : BarTable) : Type 0 where
  pub ranked : IsRanked table.matrix
  pub entries : (from to : ℕ) → from < 5 → to < 5 → IsEntry g table from to (at table.matrix from to)
