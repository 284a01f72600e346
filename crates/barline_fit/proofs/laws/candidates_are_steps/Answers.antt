use Rattle.barline_fit.proofs.Steps.{candidates_steps}
use Rattle.barline_fit.proofs.laws.candidates_are_steps.Goals as goal

pub returns : goal.returns
returns c = candidates_steps
