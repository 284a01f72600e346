use Rattle.std.proofs.Common.{take}
use Rattle.rhythm_base.specs.Lists.{Each}
use Rattle.kern_writer.specs.Ahead.{AreTokensRead}
use Rattle.kern_writer.proofs.ahead.columns_of.Given as goal

abbrev pub invariant-voices : goal.invariant-voices
invariant-voices l = Each (AreTokensRead l.resolution l.bar) (take l.voice-index l.ahead) l.columns.items
