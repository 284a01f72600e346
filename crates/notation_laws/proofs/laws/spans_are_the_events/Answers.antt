use Rattle.notation_laws.proofs.ScoreEvents.{spans_are_events}
use Rattle.notation_laws.proofs.laws.spans_are_the_events.Goals as goal

pub returns : goal.returns
returns c = spans_are_events
