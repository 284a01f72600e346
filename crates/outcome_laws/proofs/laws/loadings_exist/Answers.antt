use Rattle.outcome_laws.proofs.Loadings.{some_loading}
use Rattle.outcome_laws.proofs.laws.loadings_exist.Goals as goal

pub returns : goal.returns
returns c = some_loading
