use Rattle.std.proofs.Common.{◌≡◌, ◌≤◌, ◌-◌, ◌++◌, drop, length, take}
use Rattle.std.specs.Prelude.{All}
use Rattle.performance_prepare.specs.Ends.{AreEnds}
use Rattle.performance_prepare.specs.Groups.{costs, costs_after, groups}
use Rattle.performance_prepare.proofs.groups.costs.Given as goal

abbrev pub invariant-groups : goal.invariant-groups
invariant-groups l = record {
  costs : l.rows.items ++ costs_after l.map.tempos l.division l.middle (take l.start l.notes)
      (groups l.map.tempos l.division l.within (drop l.start l.notes))
      ≡ costs l.map.tempos l.division l.middle (groups l.map.tempos l.division l.within l.notes);
  ends : AreEnds l.ends (take l.start l.notes);
  low : All (λ end. end ≤ 1000000000) l.ends;
  within : l.start ≤ length l.notes;
  few : length l.rows.items ≤ l.start;
}

abbrev pub decreases-groups : goal.decreases-groups
decreases-groups l = length l.notes - l.start
