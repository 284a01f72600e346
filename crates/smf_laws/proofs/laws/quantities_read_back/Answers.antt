use Rattle.smf_laws.proofs.Quantities.{quantity_read}
use Rattle.smf_laws.proofs.laws.quantities_read_back.Goals as goal

pub returns : goal.returns
returns c = quantity_read
