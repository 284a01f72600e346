use Rattle.performance_load.proofs.OneLoading.{one_loading}
use Rattle.performance_load.proofs.laws.loadings_are_one.Goals as goal

pub returns : goal.returns
returns c = one_loading
