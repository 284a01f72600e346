use Rattle.weight_learning.proofs.RootTable.{is_threshold}
use Rattle.weight_learning.proofs.laws.thresholds_are_least.Goals as goal

pub returns : goal.returns
returns c = is_threshold
