use Rattle.std.proofs.Common.{◌≡◌, take}
use Rattle.performance_prepare.specs.Tempo.{scaled_tempos}
use Rattle.performance_prepare.proofs.tempo.scaled_tempos.Given as goal

abbrev pub invariant-loop-tempo : goal.invariant-loop-tempo
invariant-loop-tempo l = l.list.items ≡ scaled_tempos l.new l.old l.first (take l.tempo-index l.tempos)
