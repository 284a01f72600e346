use Rattle.std.proofs.Common.{◌≡◌}
use Rattle.barline_follow.specs.Costs.{bar_cost_at, head_cost_at, least_below, sum}
use Rattle.barline_follow.proofs.costs.least_to.Given as goal

abbrev pub invariant-counts : goal.invariant-counts
invariant-counts l = l.least ≡ least_below (λ from. sum (head_cost_at l.heads.costs from) (bar_cost_at l.bar.costs from l.to)) l.from
