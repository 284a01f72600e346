use Rattle.std.proofs.Common.{◌≡◌, ◌++◌, map, take}
use Rattle.performance_prepare.specs.Hands.{handed_note}
use Rattle.performance_prepare.proofs.hands.push_handed.Given as goal

abbrev pub invariant-loop-note : goal.invariant-loop-note
invariant-loop-note l = l.handed.items ≡ l.initial.handed.items ++ map (handed_note l.left l.border) (take l.note-index l.group)
