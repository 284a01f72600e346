use Rattle.outcome_laws.proofs.Learnings.{learnings}
use Rattle.outcome_laws.proofs.laws.learnings_exist.Goals as goal

pub returns : goal.returns
returns c = learnings
