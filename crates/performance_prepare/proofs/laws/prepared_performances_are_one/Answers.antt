use Rattle.performance_prepare.proofs.LawsKept.{one_prepared}
use Rattle.performance_prepare.proofs.laws.prepared_performances_are_one.Goals as goal

pub returns : goal.returns
returns c = one_prepared
