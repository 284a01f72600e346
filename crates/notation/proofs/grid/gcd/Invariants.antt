use Rattle.std.proofs.Common.{ℕ}
use Rattle.std.specs.Int.{IsGcd}
use Rattle.notation.proofs.grid.gcd.Given as goal

abbrev pub invariant-rests : goal.invariant-rests
invariant-rests l = (g : ℕ) → IsGcd l.x l.y g → IsGcd l.fn.a l.fn.b g

abbrev pub decreases-rests : goal.decreases-rests
decreases-rests l = l.y
