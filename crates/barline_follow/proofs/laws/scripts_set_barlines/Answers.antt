use Rattle.barline_follow.proofs.BarlinesSet.{barlines_set}
use Rattle.barline_follow.proofs.laws.scripts_set_barlines.Goals as goal

pub returns : goal.returns
returns c = barlines_set
