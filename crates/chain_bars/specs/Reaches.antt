-- The counts that paths over the first cells reach.
use Rattle.std.specs.Prelude.{◌≡◌, ◌↔◌, ℕ, ◌<◌, Bool, false, List, take, slice_index_or, IsSome, IsTrue}
use Rattle.rhythm_base.specs.Ranked.{CarryMatrix, at}
use Rattle.rhythm_base.specs.Lists.{last_end}
use Rattle.rhythm_base.specs.Paths.{path_key, AreCarried}

-- counts from 0 on lead over the first n cells to the count b
pub record IsReachedCount (es : List CarryMatrix) (n b : ℕ) : Type 0 where
  pub counts : List ℕ
  pub carried : AreCarried counts
  pub there : IsSome (path_key (take n es) 0 counts)
  pub ends : last_end 0 counts ≡ b

-- the marked counts are those that are reached
abbrev pub AreReachedCounts : List CarryMatrix → ℕ → List Bool → Type 0
AreReachedCounts es n marks = (b : ℕ) → b < 5 → IsTrue (slice_index_or marks b false) ↔ IsReachedCount es n b

abbrev pub IsAnyReached : List CarryMatrix → ℕ → Type 0
IsAnyReached es n = (b : ℕ) × (b < 5) × IsReachedCount es n b

-- a step over a cell from a count that is marked
pub record CanStep (marks : List Bool) (cell : CarryMatrix) (to : ℕ) : Type 0 where
  pub from : ℕ
  pub low : from < 5
  pub marked : IsTrue (slice_index_or marks from false)
  pub there : IsSome (at cell from to)

-- the counts that a step over a cell from the marked ones leads to
abbrev pub AreStepped : List Bool → CarryMatrix → List Bool → Type 0
AreStepped marks cell next = (to : ℕ) → to < 5 → IsTrue (slice_index_or next to false) ↔ CanStep marks cell to

abbrev pub HasMarked : List Bool → Type 0
HasMarked marks = (n : ℕ) × (n < 5) × IsTrue (slice_index_or marks n false)
