use Rattle.std.proofs.Common.{◌≡◌, map, take}
use Rattle.rhythm_base.specs.Lists.{greatest}
use Rattle.performance_load.proofs.channels.last_end.Given as goal

abbrev pub invariant-loop-note : goal.invariant-loop-note
invariant-loop-note l = l.last ≡ greatest (map (λ n. n.end) (take l.note-index l.notes))
