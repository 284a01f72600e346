-- The grid of lines is the least common multiple of the parts in which their values count.
use Rattle.std.proofs.Common.{ℕ, zero, suc, ◌≤◌, List, [], ◌∷◌, arith}
use Rattle.std.specs.Prelude.{All}
use Rattle.std.specs.Int.{◌∣◌}
use Rattle.std.specs.List.{flat_map}
use Rattle.std.proofs.Math.Nat.{dvd_trans, one-dvd}
use Rattle.std.proofs.lemmas.List.Elements.{All-append, All-nil, All-weaker}
use Rattle.std.proofs.lemmas.Nat.Gcd.{dvd-zero}
use Rattle.durations.specs.Value.{value_grid}
use Rattle.kern_reader.specs.Columns.{grid_of, grid_with, line_values}
use Rattle.kern_reader.specs.Score.{Counts}
use Rattle.kern_reader.proofs.ColumnLemmas.{grid_counts, split}
use Rattle.kern_reader.proofs.GridLemmas.{grid_multiple}
use Rattle.kern_laws.specs.Laws.{GridsAreLeast}
use Rattle.kern_laws.specs.Lines.{KernLine}
use Rattle.kern_laws.proofs.GridParts.{grid_divides}

counts : (lines : List KernLine) → All (Counts (grid_of lines)) (flat_map line_values lines)
counts [] = All-nil (Counts 1)
counts (line ∷ before) =
    let finer = grid_with (grid_of before) (line_values line) in
    All-append (Counts finer) (line_values line) (flat_map line_values before) (grid_counts (grid_of before) (line_values line))
    (All-weaker (Counts (grid_of before)) (Counts finer) (λ v h. dvd_trans (value_grid v) h (grid_multiple (grid_of before) (line_values line))) (flat_map line_values before) (counts before))

divides_some : (lines : List KernLine) (n : ℕ) → 1 ≤ n → All (Counts n) (flat_map line_values lines) → grid_of lines ∣ n
divides_some [] n some all = one-dvd n
divides_some (line ∷ before) n some all =
    let (own, rest) = split (Counts n) (line_values line) (flat_map line_values before) all in
    grid_divides n (grid_of before) (line_values line) some (divides_some before n some rest) own

least : (lines : List KernLine) (n : ℕ) → All (Counts n) (flat_map line_values lines) → grid_of lines ∣ n
least lines zero all = dvd-zero (grid_of lines)
least lines (suc n) all = divides_some lines (suc n) (omega arith) all

pub grids_are_least : GridsAreLeast
grids_are_least = record { counts = counts; least = least }
