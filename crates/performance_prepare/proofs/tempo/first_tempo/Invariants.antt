use Rattle.std.proofs.Common.{◌≡◌, take}
use Rattle.rhythm_base.specs.Time.{tempo_at}
use Rattle.performance_prepare.specs.Ranges.{IsMicros}
use Rattle.performance_prepare.proofs.tempo.first_tempo.Given as goal

abbrev pub invariant-loop-tempo : goal.invariant-loop-tempo
invariant-loop-tempo l = record { value : l.found ≡ tempo_at (take l.tempo-index l.tempos) 0; range : IsMicros l.found }
