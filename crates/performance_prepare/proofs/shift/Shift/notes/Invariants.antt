use Rattle.std.proofs.Common.{◌≡◌, map, take}
use Rattle.performance_prepare.specs.Shift.{shifted_note}
use Rattle.performance_prepare.proofs.shift.Shift.notes.Given as goal

abbrev pub invariant-loop-note : goal.invariant-loop-note
invariant-loop-note l = l.shifted.items ≡ map (shifted_note l.self) (take l.note-index l.notes)
