use Rattle.event_laws.proofs.VoiceEvents.{their_events}
use Rattle.event_laws.proofs.laws.texts_have_their_events.Goals as goal

pub returns : goal.returns
returns c = their_events
