use Rattle.weight_learning.proofs.LearnedWeights.{few}
use Rattle.weight_learning.proofs.laws.learned_weights_are_few.Goals as goal

pub returns : goal.returns
returns c = few
