use Rattle.std.proofs.Common.{◌≡◌, ◌-◌, ◌≤◌, length}
use Rattle.rhythm_base.specs.Counter.{risen}
use Rattle.chain_bars.proofs.Growth.{IsBuilt}
use Rattle.chain_bars.specs.Tower.{level_of}
use Rattle.chain_bars.proofs.levels.grown.Given as goal

abbrev pub invariant-up : goal.invariant-up
invariant-up g l = IsBuilt l.fn.cells.nodes l.levels.items l.above × (1 ≤ l.above) × (l.products ≡ risen l.fn.products (length l.fn.cells.nodes - length (level_of l.fn.cells.nodes (l.above - 1))))
