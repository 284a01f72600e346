use Rattle.hand_borders.proofs.Passes.{IsDown}
use Rattle.hand_borders.proofs.borders.ways_down.Given as goal

abbrev pub invariant-borders : goal.invariant-borders
invariant-borders l = IsDown l.initial.costs l.border l.costs l.borders
