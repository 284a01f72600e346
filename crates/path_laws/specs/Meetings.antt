-- Entries of two matrices that meet at a count.
use Rattle.std.specs.Prelude.{◌≡◌, ℕ, ◌+◌, ◌<◌, ◌≤◌, ◌⊎◌, Some}
use Rattle.rhythm_base.specs.declared.best.Best.{Best}
use Rattle.rhythm_base.specs.Ranked.{CarryMatrix, at}

-- an entry of a, and one of b that goes on from its count
pub record Meeting (a b : CarryMatrix) (from to : ℕ) : Type 0 where
  pub count : ℕ
  pub few : count < 5
  pub left : Best
  pub right : Best
  pub in_left : at a from count ≡ Some left
  pub in_right : at b count to ≡ Some right

module _ {a b : CarryMatrix} {from to : ℕ} where
  abbrev pub sum_of : Meeting a b from to → ℕ
  sum_of x = x.left.cost + x.right.cost

  -- the sum of the costs is less, or the same with no higher rank in a
  abbrev pub IsNoLater : Meeting a b from to → Meeting a b from to → Type 0
  IsNoLater x y = (sum_of x < sum_of y) ⊎ ((sum_of x ≡ sum_of y) × (x.left.rank ≤ y.left.rank))
