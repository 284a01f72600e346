-- How the entries of a matrix stand in its rows.
use Rattle.std.specs.Prelude.{◌≡◌, ℕ, ◌<◌, ◌≤◌, ◌^◌, List, [], nat_lt, if◌then◌else◌, slice_index_or, Option, Some, None}
use Rattle.rhythm_base.specs.declared.best.Best.{Best}
use Rattle.rhythm_base.specs.Paths.{AreLow, IsRanked}
use Rattle.rhythm_base.specs.Ranked.{CarryMatrix, at, five, grid}
use Rattle.carry_matrix.specs.declared.row.Row.{Row}

abbrev pub cost_code : Option Best → ℕ
cost_code None = 2 ^ 63
cost_code (Some e) = e.cost

abbrev pub rank_code : Option Best → ℕ
rank_code None = 0
rank_code (Some e) = e.rank

-- the row of these entries, by the number carried out
abbrev pub row_code : (ℕ → Option Best) → Row
row_code f = record { costs = five (λ to. cost_code (f to)); ranks = five (λ to. rank_code (f to)) }

unfoldable pub rows_of : CarryMatrix → List Row
rows_of m = five (λ from. row_code (at m from))

-- the entry for which a cost and a rank stand
abbrev pub entry_of : ℕ → ℕ → Option Best
entry_of cost rank = if nat_lt cost (2 ^ 62) then Some (record { cost = cost; rank = rank }) else None

abbrev pub row_at : List Row → ℕ → Row
row_at rows from = slice_index_or rows from (record { costs = []; ranks = [] })

abbrev pub entry_at : List Row → ℕ → ℕ → Option Best
entry_at rows from to = entry_of (slice_index_or (row_at rows from).costs to 0) (slice_index_or (row_at rows from).ranks to 0)

unfoldable pub entries_of : List Row → CarryMatrix
entries_of rows = grid (entry_at rows)

-- the rows of a matrix: its entries give them back
pub record AreRows (rows : List Row) : Type 0 where
  pub coded : rows ≡ rows_of (entries_of rows)
  pub ranked : IsRanked (entries_of rows)
  pub low : AreLow (entries_of rows)

-- costs and ranks that may be added up
abbrev pub IsWithin : Row → Type 0
IsWithin row = (to : ℕ) → to < 5 → (slice_index_or row.costs to 0 ≤ 2 ^ 63) × (slice_index_or row.ranks to 0 ≤ 5)
