-- A row: the least trees side by side for one number of chords carried in, by the number carried out.
use Rattle.std.specs.Prelude.{ℕ, ◌<◌, List, Option, None}
use Rattle.rhythm_base.specs.Ranked.{Key, Keys, is_before, key_sum, pick, value_of}
use Rattle.tree_laws.specs.Forests.{Ground, IsForestKey}
use Rattle.path_laws.specs.Tables.{IsLeastKey}

-- the least key for each number carried out, of the trees of these widths and symbols from unit p on, with a chords carried in
abbrev pub AreLeastRow : Ground → ℕ → List (ℕ × ℕ) → ℕ → (ℕ → Option Key) → Type 0
AreLeastRow d p qs a keys = (b : ℕ) → b < 5 → IsLeastKey (IsForestKey d None p qs a b) (keys b)

-- a row, and after it the row of the tree that comes next: over each count between them, the least sum
abbrev pub row_times : (ℕ → Option Key) → Keys → ℕ → Option Key
row_times row next b = value_of (pick is_before (λ m. key_sum (row m) (next m b)) 5)
