use Rattle.weight_learning.proofs.LearnedWeights.{lone}
use Rattle.weight_learning.proofs.laws.lone_rules_weigh_nothing.Goals as goal

pub returns : goal.returns
returns c = lone
