use Rattle.std.proofs.Common.{◌≡◌}
use Rattle.barline_follow.specs.Costs.{head_cost_at, least_below}
use Rattle.barline_follow.proofs.costs.least_of.Given as goal

abbrev pub invariant-counts : goal.invariant-counts
invariant-counts l = l.least ≡ least_below (head_cost_at l.heads.costs) l.count
