use Rattle.std.proofs.Common.{length}
use Rattle.session_history.proofs.Keeping.{IsCutOn}
use Rattle.session_history.proofs.steps.Steps.cut.Given as goal

abbrev pub invariant-steps : goal.invariant-steps
invariant-steps l = IsCutOn l.initial.self l.self

abbrev pub decreases-steps : goal.decreases-steps
decreases-steps l = length l.self
