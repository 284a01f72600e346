use Rattle.performance_laws.proofs.OneEvents.{one_merged}
use Rattle.performance_laws.proofs.OneChords.{one_chords}
use Rattle.performance_laws.proofs.OneBars.{one_laying}
use Rattle.performance_laws.proofs.laws.answers_are_one.Goals as goal

pub returns : goal.returns
returns c = record { events = one_merged; bars = one_laying; chords = one_chords }
