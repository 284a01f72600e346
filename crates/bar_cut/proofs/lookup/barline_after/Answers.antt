use Rattle.std.proofs.Common.{arith, sym, ◌+◌}
use Rattle.performance_laws.proofs.EditedBars.{barline_last}
use Rattle.bar_cut.proofs.Barlines.{starts_at}
use Rattle.bar_cut.proofs.lookup.barline_after.Goals as goal

pub returns-then-number-bars : goal.returns-then-number-bars
returns-then-number-bars c = sym (starts_at c.args.bars.now c.args.last (c.args.number + 1) _ c.if-number-bars.true)

pub returns-else-number-bars : goal.returns-else-number-bars
returns-else-number-bars c = sym (barline_last c.args.bars.now c.args.last (c.args.number + 1) (omega (arith, c.if-number-bars.false)))
