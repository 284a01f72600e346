use Rattle.std.proofs.Common.{◌≡◌, ap, ◌∙◌, arith}
use Rattle.barline_follow.specs.Costs.{bar_cost_at, head_cost_at, least_below, least_of_five, sum}
use Rattle.barline_follow.proofs.costs.least_to.Goals as goal

pub returns : goal.returns
unfolding least_of_five
returns c =
    let all : c.counts.from ≡ 5 = omega (arith, c.counts-test.false, c.counts.auto.from-end) in
    c.counts.invariant ∙ ap (least_below (λ from. sum (head_cost_at c.args.heads.now.costs from) (bar_cost_at c.args.bar.now.costs from c.args.to))) all
