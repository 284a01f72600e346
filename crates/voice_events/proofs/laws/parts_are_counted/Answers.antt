use Rattle.voice_events.proofs.CountedParts.{counted}
use Rattle.voice_events.proofs.laws.parts_are_counted.Goals as goal

pub returns : goal.returns
returns c = counted
