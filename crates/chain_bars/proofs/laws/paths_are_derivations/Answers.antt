use Rattle.chain_bars.proofs.Voices.{path_derivation}
use Rattle.chain_bars.proofs.laws.paths_are_derivations.Goals as goal

pub returns : goal.returns
returns c = path_derivation
