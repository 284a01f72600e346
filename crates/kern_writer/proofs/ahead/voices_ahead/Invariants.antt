use Rattle.std.proofs.Common.{◌≡◌, take}
use Rattle.kern_writer.specs.Ahead.{laters}
use Rattle.kern_writer.proofs.ahead.voices_ahead.Given as goal

abbrev pub invariant-voices : goal.invariant-voices
invariant-voices l = laters l.ahead.items ≡ take l.voice-index l.voices
