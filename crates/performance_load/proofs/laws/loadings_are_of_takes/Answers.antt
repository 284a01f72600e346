use Rattle.performance_load.proofs.TakesLoaded.{loadings_of_takes}
use Rattle.performance_load.proofs.laws.loadings_are_of_takes.Goals as goal

pub returns : goal.returns
returns c = loadings_of_takes
