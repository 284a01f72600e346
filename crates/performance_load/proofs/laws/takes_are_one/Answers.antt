use Rattle.performance_load.proofs.TakesLoaded.{takes_one}
use Rattle.performance_load.proofs.laws.takes_are_one.Goals as goal

pub returns : goal.returns
returns c = takes_one
