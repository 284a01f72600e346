use Rattle.barline_fit.proofs.OneFit.{ticks_one}
use Rattle.barline_fit.proofs.laws.fitted_ticks_are_one.Goals as goal

pub returns : goal.returns
returns c = ticks_one
