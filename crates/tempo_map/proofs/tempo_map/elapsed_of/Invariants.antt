use Rattle.tempo_map.proofs.Elapsed.{Counted}
use Rattle.tempo_map.proofs.tempo_map.elapsed_of.Given as goal

abbrev pub invariant-loop-tempo : goal.invariant-loop-tempo
invariant-loop-tempo l = Counted l.tempos l.elapsed.items l.tempo-index l.last.tick l.last.micros l.time
