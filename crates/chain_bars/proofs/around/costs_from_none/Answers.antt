use Rattle.std.proofs.Common.{◌≡◌, ◌+◌, ◌∙◌, ap, arith}
use Rattle.std.specs.Prelude.{None}
use Rattle.rhythm_base.specs.Ranked.{at}
use Rattle.chain_bars.specs.Tower.{best_cost}
use Rattle.chain_bars.proofs.Lists.{fill, filled}
use Rattle.chain_bars.proofs.around.costs_from_none.Goals as goal

pub counts-preserved : goal.counts-preserved
counts-preserved c =
    let m = c.args.matrix.now in
    fill None (λ k cost. cost ≡ best_cost (at m 0 k)) c.counts.costs c.counts.to (c.counts.to + 1) c.cost_at.result (omega arith) c.counts-test.true c.counts.invariant
    (c.cost_at.ensures ∙ ap best_cost c.entry.ensures.is ∙ (λ i. best_cost (at m (c.none.ensures i) (c.of.ensures i))))

pub returns : goal.returns
returns c = filled None (λ k. best_cost (at c.args.matrix.now 0 k)) c.counts.costs c.counts.to c.counts-test.false c.counts.invariant
