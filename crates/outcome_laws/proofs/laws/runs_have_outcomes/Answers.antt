use Rattle.outcome_laws.proofs.Outcomes.{some_outcome}
use Rattle.outcome_laws.proofs.laws.runs_have_outcomes.Goals as goal

pub returns : goal.returns
returns c = some_outcome
