use Rattle.std.proofs.Common.{ℕ, ◌≤◌}
use Rattle.std.specs.Int.{IsPowerOfTwo}
use Rattle.durations.specs.declared.value.Recip.{Recip}
use Rattle.durations.specs.Values.{IsPlain}
use Rattle.durations.proofs.length.taken.Given as goal

abbrev pub invariant-powers : goal.invariant-powers
invariant-powers l = record {
  power : IsPowerOfTwo l.power;
  within : l.power ≤ l.parts;
  largest : (d : ℕ) (other : Recip) → IsPowerOfTwo d → d ≤ l.parts → IsPlain d l.whole other → d ≤ l.power;
}

abbrev pub decreases-powers : goal.decreases-powers
decreases-powers l = l.power
