use Rattle.std.proofs.Common.{◌≡◌, take}
use Rattle.rhythm_base.specs.Lists.{greatest}
use Rattle.performance_prepare.proofs.middle.greatest_of.Given as goal

abbrev pub invariant-loop-number : goal.invariant-loop-number
invariant-loop-number l = l.most ≡ greatest (take l.number-index l.numbers)
