use Rattle.barline_fit.proofs.OneFit.{barline_made}
use Rattle.barline_fit.proofs.laws.a_fitted_barline_is_made.Goals as goal

pub returns : goal.returns
returns c = barline_made
