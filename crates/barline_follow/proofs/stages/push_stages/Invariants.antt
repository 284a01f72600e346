use Rattle.std.proofs.Common.{◌≡◌, ◌++◌}
use Rattle.std.specs.List.{flat_map, range_with_len}
use Rattle.barline_follow.specs.Stages as steps
use Rattle.barline_follow.proofs.stages.push_stages.Given as goal

abbrev pub invariant-stages : goal.invariant-stages
invariant-stages l = l.script.items ≡ l.initial.script.items ++ flat_map (steps.stage_lines l.stages l.ticks l.goal) (range_with_len 0 l.number)
