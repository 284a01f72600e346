use Rattle.event_laws.proofs.VoiceEvents.{texts_have}
use Rattle.event_laws.proofs.laws.texts_have_voice_events.Goals as goal

pub returns : goal.returns
returns c = texts_have
