use Rattle.kern_laws.proofs.OnlyPitches.{only_pitches_are_read}
use Rattle.kern_laws.proofs.laws.only_pitches_are_read.Goals as goal

pub returns : goal.returns
returns c = only_pitches_are_read
