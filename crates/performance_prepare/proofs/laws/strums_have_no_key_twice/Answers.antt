use Rattle.performance_prepare.proofs.KeysOnce.{keys_once}
use Rattle.performance_prepare.proofs.laws.strums_have_no_key_twice.Goals as goal

pub returns : goal.returns
returns c = keys_once
