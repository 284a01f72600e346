use Rattle.std.proofs.Common.{◌≡◌, map, take}
use Rattle.performance_prepare.specs.Shift.{shifted_tempo}
use Rattle.performance_prepare.proofs.shift.Shift.tempos.Given as goal

abbrev pub invariant-loop-tempo : goal.invariant-loop-tempo
invariant-loop-tempo l = l.shifted.items ≡ map (shifted_tempo l.self) (take l.tempo-index l.tempos)
