use Rattle.durations.proofs.OneList.{values_one}
use Rattle.durations.proofs.laws.values_are_one.Goals as goal

pub returns : goal.returns
returns c = values_one
