use Rattle.kern_laws.proofs.ReadBack.{texts_read_back}
use Rattle.kern_laws.proofs.laws.texts_read_back.Goals as goal

pub returns : goal.returns
returns c = texts_read_back
