use Rattle.std.proofs.Common.{take}
use Rattle.rhythm_base.specs.Lists.{Each}
use Rattle.rhythm_base.specs.Voices.{AreChordsOf}
use Rattle.barline_follow.proofs.voice.voices_of.Given as goal

abbrev pub invariant-channels : goal.invariant-channels
invariant-channels l = Each (AreChordsOf l.grammar l.performance) (take l.channel-index l.performance.channels) l.voices.items
