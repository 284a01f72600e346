use Rattle.derivation.proofs.ChordKeys.{chords_keys}
use Rattle.derivation.proofs.laws.chords_have_keys.Goals as goal

pub returns : goal.returns
returns c = chords_keys
