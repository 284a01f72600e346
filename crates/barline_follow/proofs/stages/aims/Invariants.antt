use Rattle.std.proofs.Common.{◌≡◌, ◌++◌, drop}
use Rattle.barline_follow.specs.Stages as steps
use Rattle.barline_follow.proofs.stages.aims.Given as goal

abbrev pub invariant-barlines : goal.invariant-barlines
invariant-barlines l =
    l.aims.items ++ steps.paired (steps.aim l.stages l.number) (drop l.place l.ticks) (drop l.place l.goal) ≡ steps.aims l.stages l.number l.ticks l.goal
