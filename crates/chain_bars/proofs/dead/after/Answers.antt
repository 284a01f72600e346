use Rattle.std.proofs.Common.{◌↔◌, ◌+◌, arith, subst}
use Rattle.std.specs.Prelude.{IsTrue, false}
use Rattle.chain_bars.specs.Reaches.{CanStep}
use Rattle.chain_bars.proofs.Lists.{fill}
use Rattle.chain_bars.proofs.dead.after.Goals as goal

pub counts-preserved : goal.counts-preserved
counts-preserved c =
    let cell = c.args.cell.now in
    let marks = c.args.reached.now in
    fill false (λ k mark. IsTrue mark ↔ CanStep marks cell k) c.counts.next c.counts.to (c.counts.to + 1) c.leads_to.result (omega arith) c.counts-test.true c.counts.invariant
    (subst (λ n. IsTrue c.leads_to.result ↔ CanStep marks cell n) c.of.ensures c.leads_to.ensures)

pub returns : goal.returns
returns c = λ to low. c.counts.invariant.each to (omega (arith, low, c.counts-test.false))
