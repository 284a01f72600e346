use Rattle.std.proofs.Common.{◌+◌, ◌*◌}
use Rattle.bar_pool.proofs.workers.+build_in_halves.Given as goal

abbrev pub decreases-build_in_halves : goal.decreases-build_in_halves
decreases-build_in_halves g l = 2 * l.workers + 1

abbrev pub decreases-left : goal.decreases-left
decreases-left g l = 2 * l.rest + 2

abbrev pub decreases-right : goal.decreases-right
decreases-right g l = 2 * l.half + 2
