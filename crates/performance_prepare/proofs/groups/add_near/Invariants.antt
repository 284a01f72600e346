use Rattle.performance_prepare.specs.Parted.{near}
use Rattle.performance_prepare.proofs.NearKeys.{AreAdded}
use Rattle.performance_prepare.proofs.groups.add_near.Given as goal

abbrev pub invariant-borders : goal.invariant-borders
invariant-borders l = AreAdded (near l.key) l.initial.costs l.costs l.border
