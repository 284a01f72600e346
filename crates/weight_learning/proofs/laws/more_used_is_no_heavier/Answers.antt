use Rattle.weight_learning.proofs.LearnedWeights.{no_heavier}
use Rattle.weight_learning.proofs.laws.more_used_is_no_heavier.Goals as goal

pub returns : goal.returns
returns c = no_heavier
