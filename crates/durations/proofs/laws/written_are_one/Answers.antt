use Rattle.durations.proofs.Bars.{written_one}
use Rattle.durations.proofs.laws.written_are_one.Goals as goal

pub returns : goal.returns
returns c = written_one
