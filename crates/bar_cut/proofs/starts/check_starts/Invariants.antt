use Rattle.std.proofs.Common.{take}
use Rattle.rhythm_base.specs.Voices.{HasStarts}
use Rattle.bar_cut.proofs.starts.check_starts.Given as goal

abbrev pub invariant-bars : goal.invariant-bars
invariant-bars l = HasStarts l.fn.grammar (take l.number l.bars)
