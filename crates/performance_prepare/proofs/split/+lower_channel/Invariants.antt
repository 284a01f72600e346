use Rattle.std.proofs.Common.{length}
use Rattle.performance_prepare.proofs.split.+lower_channel.Given as goal

abbrev pub decreases-lower_channel : goal.decreases-lower_channel
decreases-lower_channel l = length l.split.now
