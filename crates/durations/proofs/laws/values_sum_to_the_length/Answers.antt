use Rattle.durations.proofs.Sums.{values_sum}
use Rattle.durations.proofs.laws.values_sum_to_the_length.Goals as goal

pub returns : goal.returns
returns c = values_sum
