use Rattle.std.proofs.Common.{arith}
use Rattle.std.proofs.lemmas.Nat.Gcd.{IsGcd-from_zero, IsGcd-from_mod}
use Rattle.notation.proofs.grid.gcd.Goals as goal

pub rests-preserved : goal.rests-preserved
rests-preserved c g h = c.rests.invariant g (IsGcd-from_mod _ _ g h)

pub returns : goal.returns
returns c = c.rests.invariant _ (IsGcd-from_zero _ _ (omega arith))
