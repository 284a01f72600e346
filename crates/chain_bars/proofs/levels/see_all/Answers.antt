use Rattle.std.proofs.Common.{arith}
use Rattle.chain_bars.proofs.Growth.{see_step, all_ranked}
use Rattle.chain_bars.proofs.levels.see_all.Goals as goal

pub cells-preserved : goal.cells-preserved
cells-preserved c = see_step c.args.cells.now c.cells.number c.index-cells-number.result c.cells.invariant (omega (arith, c.cells-test.true)) c.index-cells-number.is c.see.ensures

pub returns : goal.returns
returns c = all_ranked c.args.cells.now (λ k low. c.cells.invariant k (omega (arith, low, c.cells-test.false)))
