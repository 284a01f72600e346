use Rattle.weight_learning.proofs.Logarithms.{steps_are}
use Rattle.weight_learning.proofs.laws.steps_are_greatest.Goals as goal

pub returns : goal.returns
returns c = steps_are
