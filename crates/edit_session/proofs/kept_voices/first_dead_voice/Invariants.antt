use Rattle.std.specs.Prelude.{All, take}
use Rattle.edit_session.specs.VoiceTables.{HasPath}
use Rattle.edit_session.proofs.kept_voices.first_dead_voice.Given as goal

abbrev pub invariant-voices : goal.invariant-voices
invariant-voices l = All HasPath (take l.number l.voices)
