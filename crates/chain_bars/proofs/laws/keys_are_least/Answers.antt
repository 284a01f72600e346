use Rattle.path_laws.proofs.PathTables.{keys-least_path}
use Rattle.chain_bars.proofs.laws.keys_are_least.Goals as goal

pub returns : goal.returns
returns c = keys-least_path
