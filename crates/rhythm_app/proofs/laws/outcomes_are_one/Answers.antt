use Rattle.rhythm_app.proofs.OneOutcome.{one_outcome}
use Rattle.rhythm_app.proofs.laws.outcomes_are_one.Goals as goal

pub returns : goal.returns
returns c = one_outcome
