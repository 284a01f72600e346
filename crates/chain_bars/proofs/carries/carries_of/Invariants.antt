use Rattle.std.proofs.Common.{◌<◌, length}
use Rattle.chain_bars.specs.Tower.{level, level_of}
use Rattle.chain_bars.specs.Walks.{AreCarries}
use Rattle.chain_bars.proofs.carries.carries_of.Given as goal

abbrev pub invariant-down : goal.invariant-down
invariant-down l = (l.below < length l.levels) × AreCarries (level_of (level l.levels 0) l.below) l.counts.items

abbrev pub decreases-down : goal.decreases-down
decreases-down l = l.below
