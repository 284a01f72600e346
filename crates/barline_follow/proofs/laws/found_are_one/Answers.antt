use Rattle.barline_follow.proofs.OneBest.{one_found}
use Rattle.barline_follow.proofs.laws.found_are_one.Goals as goal

pub returns : goal.returns
returns c = one_found
