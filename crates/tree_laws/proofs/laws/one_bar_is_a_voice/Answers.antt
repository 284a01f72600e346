use Rattle.tree_laws.proofs.OneDerivations.{one_bar}
use Rattle.tree_laws.proofs.laws.one_bar_is_a_voice.Goals as goal

pub returns : goal.returns
returns c = one_bar
