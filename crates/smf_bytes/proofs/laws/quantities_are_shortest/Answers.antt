use Rattle.smf_bytes.proofs.ShortForms.{quantity-shortest}
use Rattle.smf_bytes.proofs.laws.quantities_are_shortest.Goals as goal

pub returns : goal.returns
returns c = quantity-shortest
