use Rattle.performance_prepare.proofs.HandsKept.{apart_hands}
use Rattle.performance_prepare.proofs.laws.hands_lie_apart.Goals as goal

pub returns : goal.returns
returns c = apart_hands
