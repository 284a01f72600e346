use Rattle.durations.proofs.Beats.{value_part}
use Rattle.durations.proofs.laws.bars_count_in_the_grid.Goals as goal

pub returns : goal.returns
returns c = value_part
