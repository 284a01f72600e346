use Rattle.std.proofs.Common.{◌≡◌, ◌+◌, ◌-◌}
use Rattle.notation.specs.Names.{first_place}
use Rattle.notation.proofs.Windows.{first_from}
use Rattle.notation.proofs.names.place_of.Given as goal

abbrev pub invariant-places : goal.invariant-places
invariant-places l = first_from l.key l.place (l.lowest + 12 - l.place) ≡ first_place l.key l.lowest
