use Rattle.derivation.proofs.WithoutPins.{pins_are_silent}
use Rattle.derivation.proofs.laws.pins_do_not_sound.Goals as goal

pub returns : goal.returns
returns c = pins_are_silent
