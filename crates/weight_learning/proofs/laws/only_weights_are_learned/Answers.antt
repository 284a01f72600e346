use Rattle.weight_learning.proofs.OnlyWeights.{only_weights}
use Rattle.weight_learning.proofs.laws.only_weights_are_learned.Goals as goal

pub returns : goal.returns
returns c = only_weights
