use Rattle.std.proofs.Common.{length}
use Rattle.notation_tests.proofs.kern.+stand.Given as goal

abbrev pub decreases-stand : goal.decreases-stand
decreases-stand l = length l.sounds.now
