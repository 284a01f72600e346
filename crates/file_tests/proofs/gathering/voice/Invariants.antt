use Rattle.voices.specs.Voice.{AreNotesOfVoice}
use Rattle.file_tests.proofs.gathering.voice.Given as goal

abbrev pub invariant-played : goal.invariant-played
invariant-played l = AreNotesOfVoice l.notes.items
