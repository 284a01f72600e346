use Rattle.event_laws.proofs.VoiceEvents.{score_events}
use Rattle.event_laws.proofs.laws.score_texts_have_their_events.Goals as goal

pub returns : goal.returns
returns c = score_events
