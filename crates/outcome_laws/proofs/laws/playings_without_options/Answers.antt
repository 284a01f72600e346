use Rattle.outcome_laws.proofs.Untold.{untold}
use Rattle.outcome_laws.proofs.laws.playings_without_options.Goals as goal

pub returns : goal.returns
returns c = untold
