use Rattle.std.proofs.Common.{subst, sym}
use Rattle.rhythm_base.specs.Paths.{IsCheap}
use Rattle.chain_bars.proofs.Sides.{identity_cheap}
use Rattle.table_tests.proofs.chains.bars.open_bar.Goals as goal

pub returns : goal.returns
returns c = subst (IsCheap 500000000000) (sym c.identity.ensures) (identity_cheap 500000000000)
