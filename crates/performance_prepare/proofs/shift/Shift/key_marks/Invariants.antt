use Rattle.std.proofs.Common.{◌≡◌, map, take}
use Rattle.performance_prepare.specs.Shift.{shifted_key_mark}
use Rattle.performance_prepare.proofs.shift.Shift.key_marks.Given as goal

abbrev pub invariant-loop-mark : goal.invariant-loop-mark
invariant-loop-mark l = l.shifted.items ≡ map (shifted_key_mark l.self) (take l.mark-index l.marks)
