use Rattle.std.proofs.Common.{◌≡◌, drop}
use Rattle.performance_prepare.specs.Groups.{begins_near, groups}
use Rattle.performance_prepare.proofs.Cutting.{Cut}
use Rattle.performance_prepare.proofs.groups.group_end.Given as goal

abbrev pub invariant-notes : goal.invariant-notes
invariant-notes l =
    groups l.map.tempos l.division l.within (drop l.start l.notes)
    ≡ Cut (λ group last n. begins_near l.map.tempos l.division l.within last n) l.notes l.start l.end (record {
      channel = 0;
      key = 0;
      onset = 0;
      end = 0;
    })
