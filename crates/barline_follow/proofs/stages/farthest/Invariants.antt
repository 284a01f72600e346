use Rattle.std.proofs.Common.{◌≡◌, drop, max}
use Rattle.std.specs.List.{fold}
use Rattle.rhythm_base.specs.Lists.{gap}
use Rattle.barline_follow.specs.Stages as steps
use Rattle.barline_follow.proofs.stages.farthest.Given as goal

abbrev pub invariant-barlines : goal.invariant-barlines
invariant-barlines l = fold (λ n m. max n m) l.far (steps.paired gap (drop l.number l.ticks) (drop l.number l.goal)) ≡ steps.farthest l.ticks l.goal
