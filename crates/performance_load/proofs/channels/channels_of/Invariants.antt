use Rattle.std.proofs.Common.{◌≡◌, map, take}
use Rattle.performance_load.proofs.channels.channels_of.Given as goal

abbrev pub invariant-loop-note : goal.invariant-loop-note
invariant-loop-note l = l.channels.items ≡ map (λ n. n.channel) (take l.note-index l.notes)
