use Rattle.performance_prepare.proofs.Strummed.{stay_between}
use Rattle.performance_prepare.proofs.laws.strums_stay_between.Goals as goal

pub returns : goal.returns
returns c = stay_between
