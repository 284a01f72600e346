use Rattle.std.proofs.Common.{◌-◌, length}
use Rattle.tempo_map.proofs.BarByBar.{Laying}
use Rattle.tempo_map.proofs.laid.lay_bars.Given as goal

abbrev pub invariant-bars : goal.invariant-bars
invariant-bars l = Laying l.division l.signatures l.last_onset l.last_end l.bars.items l.end

abbrev pub decreases-bars : goal.decreases-bars
decreases-bars l = 4096 - length l.bars.items
