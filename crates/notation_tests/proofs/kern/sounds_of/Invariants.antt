use Rattle.std.specs.Prelude.{All}
use Rattle.derivation.specs.WellSounded.{IsWellSounding}
use Rattle.notation_tests.proofs.kern.sounds_of.Given as goal

abbrev pub invariant-leaves : goal.invariant-leaves
invariant-leaves l = All IsWellSounding l.sounds.items
