use Rattle.std.proofs.Common.{length}
use Rattle.notation_tests.proofs.kern.+ties_go_on.Given as goal

abbrev pub decreases-ties_go_on : goal.decreases-ties_go_on
decreases-ties_go_on l = length l.sounds.now
