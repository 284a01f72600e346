use Rattle.derivation.proofs.SpansExist.{spans_exist}
use Rattle.derivation.proofs.laws.spans_exist.Goals as goal

pub returns : goal.returns
returns c = spans_exist
