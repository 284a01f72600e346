use Rattle.std.proofs.Common.{sym, subst}
use Rattle.std.specs.Prelude.{All}
use Rattle.std.proofs.lemmas.List.Elements.{All-push}
use Rattle.derivation.specs.WellSounded.{IsWellSounding}
use Rattle.notation_tests.proofs.kern.sounds_of.Goals as goal

pub leaves-preserved : goal.leaves-preserved
leaves-preserved c = subst (All IsWellSounding) (sym c.in_ok-push.ensures.items) (All-push IsWellSounding c.leaves.sounds.items c.in_ok-sound_of.field-0 c.leaves.invariant c.in_ok-sound_of.ensures)
