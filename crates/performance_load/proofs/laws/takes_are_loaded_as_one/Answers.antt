use Rattle.performance_load.proofs.TakesLoaded.{takes_loaded}
use Rattle.performance_load.proofs.laws.takes_are_loaded_as_one.Goals as goal

pub returns : goal.returns
returns c = takes_loaded
