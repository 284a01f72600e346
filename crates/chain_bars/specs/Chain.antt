-- What contracts see of a chain.
use Rattle.std.specs.Prelude.{ℕ, List}
use Rattle.rhythm_base.specs.Ranked.{CarryMatrix}

-- the cells, and up to how many cells the chain grows without taking memory
pub record Chain : Type 0 where
  pub cells : List CarryMatrix
  pub room : ℕ
