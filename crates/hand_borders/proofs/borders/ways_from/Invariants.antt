use Rattle.hand_borders.proofs.Passes.{IsUp}
use Rattle.hand_borders.proofs.borders.ways_from.Given as goal

abbrev pub invariant-borders : goal.invariant-borders
invariant-borders l = IsUp l.fn.costs l.border l.costs l.borders
