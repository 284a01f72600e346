use Rattle.durations.proofs.Beats.{written_part}
use Rattle.durations.proofs.laws.written_count_in_the_grid.Goals as goal

pub returns : goal.returns
returns c = written_part
