use Rattle.notation_laws.proofs.VoiceHeard.{voices_heard}
use Rattle.notation_laws.proofs.laws.voices_are_heard.Goals as goal

pub returns : goal.returns
returns c = voices_heard
