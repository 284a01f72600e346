use Rattle.weight_learning.proofs.SameDerivations.{same_derivations}
use Rattle.weight_learning.proofs.laws.weights_decide_no_derivation.Goals as goal

pub returns : goal.returns
returns c = same_derivations
