-- Walking down the levels: the counts of a level from those of the level above it.
use Rattle.std.specs.Prelude.{◌≡◌, ℕ, ◌+◌, ◌<◌, ◌≤◌, List, [], ◌∷◌, ◌++◌, length, slice_index_or, Option, Some, None}
use Rattle.rhythm_base.specs.Ranked.{CarryMatrix, Key, middle_of}
use Rattle.rhythm_base.specs.Paths.{IsLeastPath}

abbrev pub number_or : Option ℕ → ℕ
number_or None = 0
number_or (Some m) = m

-- between two neighbours the count that their product takes
abbrev pub refined : List CarryMatrix → ℕ → List ℕ → List ℕ
refined [] a p = []
refined (x ∷ []) a p = p
refined (x ∷ y ∷ es) a [] = []
refined (x ∷ y ∷ es) a (m ∷ p) = number_or (middle_of x y a m) ∷ m ∷ refined es m p

-- the same with the count at the beginning
abbrev pub descended : List CarryMatrix → List ℕ → List ℕ
descended es [] = []
descended es (a ∷ p) = a ∷ refined es a p

-- The counts with those at the node of a place and its neighbour: the one after them, and before it the one between them, where there
-- is a neighbour.
pub record AreLonger (nodes : List CarryMatrix) (place from to : ℕ) (counts longer : List ℕ) : Type 0 where
  pub two : place + 1 < length nodes
      → longer ≡ counts ++ number_or (middle_of (slice_index_or nodes place []) (slice_index_or nodes (place + 1) []) from to) ∷ to ∷ []
  pub lone : length nodes ≤ place + 1 → longer ≡ counts ++ to ∷ []

-- the counts at the barlines, from 0 to 0, are those of the least path
pub record AreCarries (es : List CarryMatrix) (counts : List ℕ) : Type 0 where
  pub path : List ℕ
  pub from_none : counts ≡ 0 ∷ path
  pub key : Key
  pub least : IsLeastPath es 0 0 path key
