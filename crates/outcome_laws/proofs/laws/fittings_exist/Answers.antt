use Rattle.outcome_laws.proofs.Fittings.{some_fitting}
use Rattle.outcome_laws.proofs.laws.fittings_exist.Goals as goal

pub returns : goal.returns
returns c = some_fitting
