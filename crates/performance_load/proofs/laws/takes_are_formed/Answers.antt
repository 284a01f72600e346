use Rattle.performance_load.proofs.TakesLoaded.{takes_formed}
use Rattle.performance_load.proofs.laws.takes_are_formed.Goals as goal

pub returns : goal.returns
returns c = takes_formed
