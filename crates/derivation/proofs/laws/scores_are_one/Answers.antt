use Rattle.derivation.proofs.OneScore.{scores_one}
use Rattle.derivation.proofs.laws.scores_are_one.Goals as goal

pub returns : goal.returns
returns c = scores_one
