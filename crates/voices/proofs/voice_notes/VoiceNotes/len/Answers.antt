use Rattle.std.proofs.Common.{arith}
use Rattle.voices.proofs.voice_notes.VoiceNotes.len.Goals as goal

pub returns-clause-few : goal.returns-clause-few
returns-clause-few c = let h = c.self.invariant in omega (arith, h.0, h.1, h.2)
