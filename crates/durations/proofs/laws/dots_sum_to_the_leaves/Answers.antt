use Rattle.durations.proofs.Groups.{dots_sum}
use Rattle.durations.proofs.laws.dots_sum_to_the_leaves.Goals as goal

pub returns : goal.returns
returns c = dots_sum
