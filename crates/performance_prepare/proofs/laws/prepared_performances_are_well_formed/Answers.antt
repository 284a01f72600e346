use Rattle.performance_prepare.proofs.LawsKept.{prepared_well}
use Rattle.performance_prepare.proofs.laws.prepared_performances_are_well_formed.Goals as goal

pub returns : goal.returns
returns c = prepared_well
