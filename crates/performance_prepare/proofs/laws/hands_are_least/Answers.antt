use Rattle.performance_prepare.proofs.HandsKept.{least_hands}
use Rattle.performance_prepare.proofs.laws.hands_are_least.Goals as goal

pub returns : goal.returns
returns c = least_hands
