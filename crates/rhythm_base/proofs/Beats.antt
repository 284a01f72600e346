-- The value of a beat.
use Rattle.std.specs.Prelude.{ℕ, ◌≤◌, IsTrue}
use Rattle.std.proofs.Common.{zero, suc, arith}
use Rattle.rhythm_base.specs.Signatures.{is_den}

-- it is above 0
pub some_beat : (den : ℕ) → IsTrue (is_den den) → 1 ≤ den
some_beat zero h = absurd (cc)
some_beat (suc den) h = omega arith
