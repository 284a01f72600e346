use Rattle.kern_laws.proofs.Pitches.{pitches}
use Rattle.kern_laws.proofs.laws.pitches_read_back.Goals as goal

pub returns : goal.returns
returns c = pitches
