use Rattle.std.proofs.Common.{arith}
use Rattle.performance_prepare.proofs.Middles.{mean_low}
use Rattle.performance_prepare.proofs.middle.mean.Goals as goal

pub returns-clause-low : goal.returns-clause-low
returns-clause-low c = mean_low c.args.side.sum c.args.side.count (omega (arith, c.requires.some)) c.requires.keys.low
