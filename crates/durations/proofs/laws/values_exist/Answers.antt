use Rattle.durations.proofs.ValuesExist.{values_exist}
use Rattle.durations.proofs.laws.values_exist.Goals as goal

pub returns : goal.returns
returns c = values_exist
