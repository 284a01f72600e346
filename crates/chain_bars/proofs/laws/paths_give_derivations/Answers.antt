use Rattle.chain_bars.proofs.Voices.{key_derivation}
use Rattle.chain_bars.proofs.laws.paths_give_derivations.Goals as goal

pub returns : goal.returns
returns c = key_derivation
