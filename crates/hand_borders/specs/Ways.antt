-- What it costs to go on from a border.
use Rattle.std.specs.Prelude.{◌≡◌, ℕ, ◌+◌, ◌-◌, ◌*◌, ◌<◌, ◌≤◌, List, [], ◌∷◌, length, slice_index, All}
use Rattle.rhythm_base.specs.Lists.{gap}

-- of the borders up to one the best to go to, by its cost and the move to it, and of equals the lowest
pub record IsNearestBelow (after : List ℕ) (from cost to : ℕ) : Type 0 where
  pub within : to ≤ from
  pub value : cost ≡ slice_index after to + 200 * (from - to)
  pub least : (other : ℕ) → other ≤ from → cost ≤ slice_index after other + 200 * (from - other)
  pub first : (other : ℕ) → other ≤ from → slice_index after other + 200 * (from - other) ≡ cost → to ≤ other

-- of all borders
pub record IsNearest (after : List ℕ) (from cost to : ℕ) : Type 0 where
  pub within : to < 129
  pub value : cost ≡ slice_index after to + 200 * gap from to
  pub least : (other : ℕ) → other < 129 → cost ≤ slice_index after other + 200 * gap from other
  pub first : (other : ℕ) → other < 129 → slice_index after other + 200 * gap from other ≡ cost → to ≤ other

-- for each border below n
abbrev pub AreNearestBelow : List ℕ → ℕ → List ℕ → List ℕ → Type 0
AreNearestBelow after n costs borders =
    (from : ℕ) → from < n → IsNearestBelow after from (slice_index costs from) (slice_index borders from)

-- for each border
abbrev pub AreNearest : List ℕ → List ℕ → List ℕ → Type 0
AreNearest after costs borders = (from : ℕ) → from < 129 → IsNearest after from (slice_index costs from) (slice_index borders from)

-- the least of the numbers stands there, and not before
pub record IsLowest (costs : List ℕ) (border : ℕ) : Type 0 where
  pub within : border < 129
  pub least : (other : ℕ) → other < 129 → slice_index costs border ≤ slice_index costs other
  pub first : (other : ℕ) → other < 129 → slice_index costs other ≡ slice_index costs border → border ≤ other

-- the way from a border on: by each group's list of where to go from each border
abbrev pub follow : List (List ℕ) → ℕ → List ℕ
follow [] border = []
follow (to ∷ ways) border = slice_index to border ∷ follow ways (slice_index to border)

-- they lead to borders
abbrev pub AreWays : List ℕ → Type 0
AreWays to = (length to ≡ 129) × All (λ border. border < 129) to
