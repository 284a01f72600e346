use Rattle.performance_laws.proofs.SomeChords.{chords_of_notes}
use Rattle.table_laws.proofs.laws.chords_exist.Goals as goal

pub returns : goal.returns
returns c = chords_of_notes
