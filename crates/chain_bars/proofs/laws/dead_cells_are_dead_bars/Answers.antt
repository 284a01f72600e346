use Rattle.chain_bars.proofs.Voices.{dead_bar}
use Rattle.chain_bars.proofs.laws.dead_cells_are_dead_bars.Goals as goal

pub returns : goal.returns
returns c = dead_bar
