use Rattle.std.proofs.Common.{◌≡◌, ◌++◌, drop, map}
use Rattle.std.specs.Prelude.{filter}
use Rattle.barline_follow.specs.Stages as steps
use Rattle.barline_follow.proofs.stages.push_earlier.Given as goal

abbrev pub invariant-barlines : goal.invariant-barlines
invariant-barlines l =
    l.script.items ++ map steps.shift_line (filter steps.is_earlier (steps.shifts l.number (drop l.number l.ticks) (drop l.number l.aims)))
    ≡ l.initial.script.items ++ map steps.shift_line (filter steps.is_earlier (steps.shifts 0 l.ticks l.aims))
