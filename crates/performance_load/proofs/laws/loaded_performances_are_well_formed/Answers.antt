use Rattle.performance_load.proofs.Formed.{loaded_formed}
use Rattle.performance_load.proofs.laws.loaded_performances_are_well_formed.Goals as goal

pub returns : goal.returns
returns c = loaded_formed
