use Rattle.barline_follow.proofs.Ranges.{in_range}
use Rattle.barline_follow.proofs.laws.scripts_are_in_range.Goals as goal

pub returns : goal.returns
returns c = in_range
