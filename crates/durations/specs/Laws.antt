-- What the values of a length, and of a bar, come to.
use Rattle.std.specs.Prelude.{◌≡◌, ℕ, ◌+◌, ◌*◌, ◌≤◌, IsTrue, List, All, map, sum, take}
use Rattle.std.specs.Int.{◌∣◌}
use Rattle.rhythm_base.specs.Signatures.{is_den}
use Rattle.durations.specs.declared.value.Value.{Value}
use Rattle.durations.specs.declared.joined.Timed.{Timed}
use Rattle.durations.specs.declared.joined.Written.{Written}
use Rattle.durations.specs.Value.{IsWide, value_grid, width}
use Rattle.durations.specs.Values.{AreValues}
use Rattle.durations.specs.Joined.{ArePlaced, AreValuesOf, AreWritten, dots}

-- values sum to the length len/whole: each is a whole number of parts of 1/whole of a whole note, and they are len in all
pub record SumTo (len whole : ℕ) (vs : List Value) : Type 0 where
  pub wide : All (IsWide whole) vs
  pub sum : sum (map (width whole) vs) ≡ len

-- the length of leaves in all
abbrev pub value_length : List Timed → ℕ
value_length leaves = sum (map (λ x. x.len) leaves)

-- ---- one list, of the right length

-- the values of a length sum to it
abbrev pub ValuesSumToTheLength : Type 0
ValuesSumToTheLength = (len whole : ℕ) (vs : List Value) → 1 ≤ whole → AreValues len whole vs → SumTo len whole vs

-- a length has at most one list of values
abbrev pub ValuesAreOne : Type 0
ValuesAreOne = (len whole : ℕ) (vs ws : List Value) → 1 ≤ whole → AreValues len whole vs → AreValues len whole ws → vs ≡ ws

-- and at least one
abbrev pub ValuesExist : Type 0
ValuesExist = (len whole : ℕ) → 1 ≤ whole → (vs : List Value) × AreValues len whole vs

-- the values of a leaf sum to its length and those of the leaves that are joined to it
abbrev pub DotsSumToTheLeaves : Type 0
DotsSumToTheLeaves =
    (whole : ℕ) (leaf : Timed) (more : List Timed) (vs : List Value)
    → 1 ≤ whole → AreValuesOf whole leaf (dots whole leaf more) vs → SumTo (leaf.len + value_length (take (dots whole leaf more) more)) whole vs

-- the leaves of a bar have at most one list of written values
abbrev pub WrittenAreOne : Type 0
WrittenAreOne = (whole : ℕ) (leaves : List Timed) (some other : List Written) → 1 ≤ whole → AreWritten whole leaves some → AreWritten whole leaves other → some ≡ other

-- and at least one
abbrev pub WrittenExist : Type 0
WrittenExist = (whole : ℕ) (leaves : List Timed) → 1 ≤ whole → (ws : List Written) × AreWritten whole leaves ws

-- the written values of a bar stand without a gap from its start to its end, and none goes over the barline
pub record FillTheBar (whole : ℕ) (leaves : List Timed) (ws : List Written) : Type 0 where
  pub sum : SumTo (value_length leaves) whole (map (λ w. w.value) ws)
  pub places : ArePlaced whole 0 ws
  pub within : All (λ w. w.from + width whole w.value ≤ value_length leaves) ws

abbrev pub WrittenFillTheBar : Type 0
WrittenFillTheBar = (whole : ℕ) (leaves : List Timed) (ws : List Written) → 1 ≤ whole → AreWritten whole leaves ws → FillTheBar whole leaves ws

-- ---- the parts in which values count

-- A value counts in `grid v` parts of a whole note. Where a whole note is cut into an even number of smaller parts, so that
-- each of its `whole` parts is a whole number of them, the value can be counted in them too
abbrev pub CountsIn : ℕ → Value → Type 0
CountsIn whole v = (all : ℕ) → whole ∣ all → 2 ∣ all → value_grid v ∣ all

-- A unit of a bar is 1/(resolution * den) of a whole note. So what counts in the parts of a bar, whatever its signature, can
-- be counted in 64 * resolution parts of a whole note ..
abbrev pub BarsCountInTheGrid : Type 0
BarsCountInTheGrid = (resolution den : ℕ) (v : Value) → IsTrue (is_den den) → CountsIn (resolution * den) v → value_grid v ∣ 64 * resolution

-- .. as do the values of each length ..
abbrev pub ValuesCountInTheGrid : Type 0
ValuesCountInTheGrid = (resolution den len : ℕ) (vs : List Value) → IsTrue (is_den den) → AreValues len (resolution * den) vs → All (λ v. value_grid v ∣ 64 * resolution) vs

-- .. and the written values of each bar
abbrev pub WrittenCountInTheGrid : Type 0
WrittenCountInTheGrid =
    (resolution den : ℕ) (leaves : List Timed) (ws : List Written)
    → IsTrue (is_den den) → AreWritten (resolution * den) leaves ws → All (λ v. value_grid v ∣ 64 * resolution) (map (λ w. w.value) ws)
