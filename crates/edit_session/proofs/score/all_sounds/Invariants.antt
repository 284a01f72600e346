use Rattle.std.specs.Prelude.{take}
use Rattle.derivation.specs.PerformanceScore.{AreLeastSounds}
use Rattle.rhythm_base.specs.Lists.{Each}
use Rattle.edit_session.proofs.score.all_sounds.Given as goal

abbrev pub invariant-voices : goal.invariant-voices
invariant-voices l = Each (AreLeastSounds l.grammar l.performance) (take l.number l.channels) l.sounds.items
