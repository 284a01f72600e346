use Rattle.weight_learning.proofs.LearnedWeights.{kept}
use Rattle.weight_learning.proofs.laws.unused_symbols_keep_their_weights.Goals as goal

pub returns : goal.returns
returns c = kept
