use Rattle.hand_borders.proofs.Passes.{IsSummed}
use Rattle.hand_borders.proofs.borders.add_group.Given as goal

abbrev pub invariant-borders : goal.invariant-borders
invariant-borders l = IsSummed l.group l.initial.costs l.border l.costs
