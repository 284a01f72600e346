use Rattle.cell_bench.proofs.Cheap.{tables_cheap}
use Rattle.cell_bench.proofs.build_drawn.Goals as goal

pub returns : goal.returns
returns g c = tables_cheap c.args.grammar.now c.as_slice.result.now c.in_ok-tables.tables.items c.in_ok-tables.ensures.tables
