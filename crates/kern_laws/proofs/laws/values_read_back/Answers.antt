use Rattle.kern_laws.proofs.Values.{values}
use Rattle.kern_laws.proofs.laws.values_read_back.Goals as goal

pub returns : goal.returns
returns c = values
