use Rattle.barline_fit.proofs.Reaching.{sums_one}
use Rattle.barline_fit.proofs.laws.reached_sums_are_one.Goals as goal

pub returns : goal.returns
returns c = sums_one
