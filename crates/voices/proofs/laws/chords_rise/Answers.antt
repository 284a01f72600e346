use Rattle.performance_laws.proofs.ChordLemmas.{onsets_rise}
use Rattle.voices.proofs.laws.chords_rise.Goals as goal

pub returns : goal.returns
returns c = onsets_rise
