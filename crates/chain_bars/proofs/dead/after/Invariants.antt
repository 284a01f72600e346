use Rattle.std.proofs.Common.{◌↔◌}
use Rattle.std.specs.Prelude.{IsTrue, false}
use Rattle.chain_bars.specs.Reaches.{CanStep}
use Rattle.chain_bars.proofs.Lists.{AreFilled}
use Rattle.chain_bars.proofs.dead.after.Given as goal

abbrev pub invariant-counts : goal.invariant-counts
invariant-counts l = AreFilled false (λ k mark. IsTrue mark ↔ CanStep l.reached l.cell k) l.next l.to
