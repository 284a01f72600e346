use Rattle.std.proofs.Common.{◌≡◌, ◌++◌, map, take}
use Rattle.performance_prepare.specs.Strum.{begun_at}
use Rattle.performance_prepare.proofs.strum.push_together.Given as goal

abbrev pub invariant-loop-note : goal.invariant-loop-note
invariant-loop-note l = l.placed.items ≡ l.initial.placed.items ++ map (begun_at l.onset) (take l.note-index l.strum)
