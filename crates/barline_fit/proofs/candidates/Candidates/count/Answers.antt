use Rattle.std.proofs.Common.{◌+◌, ◌-◌, ◌/◌, sym}
use Rattle.barline_fit.proofs.Steps.{length-stepped}
use Rattle.barline_fit.proofs.candidates.Candidates.count.Goals as goal

pub returns-clause-ticks : goal.returns-clause-ticks
returns-clause-ticks c = let it = c.args.self.now in sym (length-stepped it.low it.step ((it.high - it.low) / it.step + 1))
