use Rattle.std.proofs.Common.{ℕ, ◌+◌, ◌<◌}
use Rattle.chain_bars.specs.Reaches.{AreReachedCounts, IsAnyReached}
use Rattle.chain_bars.proofs.dead.first_dead_of.Given as goal

abbrev pub invariant-cells : goal.invariant-cells
invariant-cells l = AreReachedCounts l.cells l.number l.reached × ((j : ℕ) → j < l.number → IsAnyReached l.cells (j + 1))
