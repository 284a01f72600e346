-- Where the tables of inputs come from.
use Rattle.std.specs.Prelude.{◌≡◌, ◌≢◌, ℕ, zero, suc, ◌+◌, ◌<◌, List, [], ◌∷◌, Option, Some, None, length, slice_get, ◌⊎◌}
use Rattle.bar_pool.specs.Pool.{IsTableOf}
use Rattle.rhythm_base.specs.BarInput.{BarInput}
use Rattle.rhythm_base.specs.BarTables.{BarTable}
use Rattle.rhythm_base.specs.Grammar.{Grammar}
use Rattle.rhythm_base.specs.Lists.{Each}

-- the bar has no onset and no pin
abbrev pub IsBare : BarInput → Type 0
IsBare k = (k.chords ≡ []) × (k.pin ≡ None)

-- The input of the number is equal to one before it. Where none is named it is bare, or no other before it is equal.
abbrev pub IsSource : List BarInput → ℕ → Option ℕ → Type 0
IsSource inputs number (Some earlier) = (earlier < number) × (slice_get inputs earlier ≡ slice_get inputs number)
IsSource inputs number None =
    (k : BarInput) → slice_get inputs number ≡ Some k
    → IsBare k ⊎ ((earlier : ℕ) → earlier < number → slice_get inputs earlier ≢ Some k)

-- the source of each input
pub record AreSources (inputs : List BarInput) (sources : List (Option ℕ)) : Type 0 where
  pub long : length sources ≡ length inputs
  pub each : (number : ℕ) (source : Option ℕ) → slice_get sources number ≡ Some source → IsSource inputs number source

-- so many numbers, from n on
abbrev pub counted_from : ℕ → ℕ → List ℕ
counted_from n zero = []
counted_from n (suc count) = n ∷ counted_from (n + 1) count

-- the numbers, from n on, of the inputs that have no source
abbrev pub searched_from : ℕ → List (Option ℕ) → List ℕ
searched_from n [] = []
searched_from n (None ∷ sources) = n ∷ searched_from (n + 1) sources
searched_from n (Some earlier ∷ sources) = searched_from (n + 1) sources

-- the table of the input of this number
abbrev pub IsTableAt : Grammar → List BarInput → ℕ → BarTable → Type 0
IsTableAt g inputs number table = (input : BarInput) → slice_get inputs number ≡ Some input → IsTableOf g input table

-- the tables of the inputs of these numbers, in the order of the numbers
abbrev pub AreTablesAt : Grammar → List BarInput → List ℕ → List BarTable → Type 0
AreTablesAt g inputs numbers tables = Each (IsTableAt g inputs) numbers tables
