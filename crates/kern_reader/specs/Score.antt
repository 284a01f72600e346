-- What contracts see of a score that was read.
use Rattle.std.specs.Prelude.{ℕ, ◌^◌, ◌<◌, ◌≤◌, All, List, length, map, reverse}
use Rattle.std.specs.Int.{◌∣◌}
use Rattle.durations.specs.declared.value.Value.{Value}
use Rattle.durations.specs.Value.{value_grid}
use Rattle.kern_reader.specs.declared.line.KernLine.{KernLine}
use Rattle.kern_reader.specs.declared.token.Token.{Token}
use Rattle.kern_reader.specs.Columns.{columns_of, grid_of, token_values}
use Rattle.kern_reader.specs.Tokens.{IsWellToken}

-- the columns of a score, each from its head on, and the grid of all its values
pub record KernColumns : Type 0 where
  pub grid : ℕ
  pub columns : List (List Token)

abbrev pub score_columns : List KernLine → KernColumns
score_columns lines = record { grid = grid_of lines; columns = map reverse (columns_of lines) }

-- a value counts in a grid
abbrev pub Counts : ℕ → Value → Type 0
Counts grid v = value_grid v ∣ grid

abbrev pub IsTokenOn : ℕ → Token → Type 0
IsTokenOn grid t = IsWellToken t × All (Counts grid) (token_values t)

abbrev pub IsColumnOn : ℕ → List Token → Type 0
IsColumnOn grid column = All (IsTokenOn grid) column

-- all values of a score that is read are in their ranges, and count in its grid
pub record IsKernScore (s : KernColumns) : Type 0 where
  pub some : 1 ≤ s.grid
  pub fine : s.grid ≤ 61440
  pub narrow : length s.columns ≤ 16
  pub on : All (IsColumnOn s.grid) s.columns
  pub short : All (λ c. length c < 2 ^ 32) s.columns
