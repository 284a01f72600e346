use Rattle.voice_events.proofs.ScoreEvents.{decided}
use Rattle.voice_events.proofs.laws.signatures_decide_events.Goals as goal

pub returns : goal.returns
returns c = decided
