use Rattle.std.proofs.Common.{take}
use Rattle.performance_prepare.specs.Parted.{AreTwoHands}
use Rattle.performance_prepare.proofs.parted.two_hands.Given as goal

abbrev pub invariant-loop-key : goal.invariant-loop-key
invariant-loop-key l = AreTwoHands l.border (take l.key-index l.keys) l.hands
