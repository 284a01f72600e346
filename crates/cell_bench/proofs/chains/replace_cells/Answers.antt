use Rattle.std.proofs.Common.{rules}
use Rattle.rhythm_base.specs.declared.limits.TheConstants.{DEAREST_CELL}
use Rattle.chain_bars.proofs.Lists.{index_cheap}
use Rattle.cell_bench.proofs.chains.replace_cells.Goals as goal

pub replace-requires-clause-cheap : goal.replace-requires-clause-cheap
replace-requires-clause-cheap c κs = index_cheap DEAREST_CELL c.args.cells.now _ c.index-cells-next.result c.requires.cheap (search rules) c.index-cells-next.is
