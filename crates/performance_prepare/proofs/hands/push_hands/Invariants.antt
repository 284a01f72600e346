use Rattle.std.proofs.Common.{◌≡◌, ◌≤◌, ◌++◌, drop, length}
use Rattle.performance_prepare.specs.Groups.{groups}
use Rattle.performance_prepare.specs.Hands.{handed_notes}
use Rattle.performance_prepare.proofs.hands.push_hands.Given as goal

abbrev pub invariant-borders : goal.invariant-borders
invariant-borders l = record {
  handed : l.handed.items ++ handed_notes l.left (groups l.map.tempos l.division l.within (drop l.start l.notes))
      (drop l.border-index l.borders)
      ≡ l.initial.handed.items ++ handed_notes l.left (groups l.map.tempos l.division l.within l.notes) l.borders;
  within : l.start ≤ length l.notes;
}
