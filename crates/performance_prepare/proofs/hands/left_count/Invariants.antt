use Rattle.std.proofs.Common.{◌≡◌, ◌≤◌, ◌+◌, drop, length}
use Rattle.performance_prepare.specs.Groups.{groups}
use Rattle.performance_prepare.specs.Hands.{left_notes}
use Rattle.performance_prepare.proofs.hands.left_count.Given as goal

abbrev pub invariant-borders : goal.invariant-borders
invariant-borders l = record {
  count : l.count + length (left_notes (groups l.map.tempos l.division l.within (drop l.start l.notes)) (drop l.border-index l.borders))
      ≡ length (left_notes (groups l.map.tempos l.division l.within l.notes) l.borders);
  few : l.count ≤ l.start;
  within : l.start ≤ length l.notes;
}
