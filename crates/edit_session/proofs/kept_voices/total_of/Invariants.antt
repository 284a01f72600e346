use Rattle.std.specs.Prelude.{◌≡◌, sum_by, take}
use Rattle.edit_session.specs.VoiceTables.{voice_cost}
use Rattle.edit_session.proofs.kept_voices.total_of.Given as goal

abbrev pub invariant-voices : goal.invariant-voices
invariant-voices l = l.sum ≡ sum_by voice_cost (take l.voice-index l.voices)
