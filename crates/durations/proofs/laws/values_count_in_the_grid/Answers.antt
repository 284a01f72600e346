use Rattle.durations.proofs.Beats.{values_part}
use Rattle.durations.proofs.laws.values_count_in_the_grid.Goals as goal

pub returns : goal.returns
returns c = values_part
