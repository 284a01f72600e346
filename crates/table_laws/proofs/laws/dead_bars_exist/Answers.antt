use Rattle.table_laws.proofs.Derivations.{some_dead_bar}
use Rattle.table_laws.proofs.laws.dead_bars_exist.Goals as goal

pub returns : goal.returns
returns c = some_dead_bar
