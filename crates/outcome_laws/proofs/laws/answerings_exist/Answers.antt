use Rattle.outcome_laws.proofs.Answerings.{some_answering}
use Rattle.outcome_laws.proofs.laws.answerings_exist.Goals as goal

pub returns : goal.returns
returns c = some_answering
