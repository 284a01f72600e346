use Rattle.answer_laws.proofs.Outcomes.{some_outcome}
use Rattle.answer_laws.proofs.laws.outcomes_exist.Goals as goal

pub returns : goal.returns
returns c = some_outcome
