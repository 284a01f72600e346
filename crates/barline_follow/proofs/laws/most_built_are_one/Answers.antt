use Rattle.barline_follow.proofs.MostBuilt.{ones}
use Rattle.barline_follow.proofs.laws.most_built_are_one.Goals as goal

pub returns : goal.returns
returns c = ones
