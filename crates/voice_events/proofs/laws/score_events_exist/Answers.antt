use Rattle.voice_events.proofs.ScoreEvents.{events_exist}
use Rattle.voice_events.proofs.laws.score_events_exist.Goals as goal

pub returns : goal.returns
returns c = events_exist
