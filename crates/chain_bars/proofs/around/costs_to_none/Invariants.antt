use Rattle.std.proofs.Common.{◌≡◌}
use Rattle.std.specs.Prelude.{None}
use Rattle.rhythm_base.specs.Ranked.{at}
use Rattle.chain_bars.specs.Tower.{best_cost}
use Rattle.chain_bars.proofs.Lists.{AreFilled}
use Rattle.chain_bars.proofs.around.costs_to_none.Given as goal

abbrev pub invariant-counts : goal.invariant-counts
invariant-counts l = AreFilled None (λ k cost. cost ≡ best_cost (at l.matrix k 0)) l.costs l.from
