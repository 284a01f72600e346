use Rattle.std.proofs.Common.{◌≡◌, ◌++◌, map, take, drop}
use Rattle.kern_writer.specs.Ahead.{bar_read}
use Rattle.kern_writer.proofs.ahead.read_bars.Given as goal

abbrev pub invariant-voices : goal.invariant-voices
invariant-voices l = l.ahead ≡ map (bar_read l.number) (take l.voice-index l.initial.ahead) ++ drop l.voice-index l.initial.ahead
