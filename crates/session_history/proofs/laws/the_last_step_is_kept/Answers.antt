use Rattle.session_history.proofs.LastSteps.{last_step_is_kept}
use Rattle.session_history.proofs.laws.the_last_step_is_kept.Goals as goal

pub returns : goal.returns
returns c = last_step_is_kept
