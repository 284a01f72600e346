use Rattle.chain_bars.proofs.Voices.{path_none}
use Rattle.chain_bars.proofs.laws.no_path_is_no_derivation.Goals as goal

pub returns : goal.returns
returns c = path_none
