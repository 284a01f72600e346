use Rattle.voice_events.proofs.ScoreEvents.{events_one}
use Rattle.voice_events.proofs.laws.score_events_are_one.Goals as goal

pub returns : goal.returns
returns c = events_one
