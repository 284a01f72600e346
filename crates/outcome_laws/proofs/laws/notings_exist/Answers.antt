use Rattle.outcome_laws.proofs.Notings.{some_noting}
use Rattle.outcome_laws.proofs.laws.notings_exist.Goals as goal

pub returns : goal.returns
returns c = some_noting
