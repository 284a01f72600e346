use Rattle.std.proofs.Common.{◌≡◌, ◌++◌, drop, map}
use Rattle.std.specs.Prelude.{filter, reverse}
use Rattle.barline_follow.specs.Stages as steps
use Rattle.barline_follow.proofs.stages.push_later.Given as goal

abbrev pub invariant-barlines : goal.invariant-barlines
invariant-barlines l =
    l.script.items
    ≡ l.initial.script.items
    ++ map steps.shift_line (reverse (filter steps.is_later (steps.shifts l.number (drop l.number l.ticks) (drop l.number l.aims))))
