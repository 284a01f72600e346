-- Takes of which more can be told.
use Rattle.std.specs.Prelude.{ℕ}
use Rattle.performance_load.specs.Take.{Take}
use Rattle.performance_load.specs.Taking.{AreMarksUpTo, IsTakeFormed}

-- a well-formed take, with no change after a tick
pub record IsReady (latest : ℕ) (t : Take) : Type 0 where
  pub formed : IsTakeFormed t
  pub marks : AreMarksUpTo latest t
