use Rattle.voice_events.proofs.ScoreEvents.{events_follow}
use Rattle.voice_events.proofs.laws.score_events_are_voice_events.Goals as goal

pub returns : goal.returns
returns c = events_follow
