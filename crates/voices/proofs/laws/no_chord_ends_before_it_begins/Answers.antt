use Rattle.performance_laws.proofs.ChordLemmas.{chords_end_after}
use Rattle.voices.proofs.laws.no_chord_ends_before_it_begins.Goals as goal

pub returns : goal.returns
returns c = chords_end_after
