use Rattle.std.proofs.Common.{◌≡◌, ap, ◌∙◌, arith}
use Rattle.barline_follow.specs.Costs.{head_cost_at, least_below, least_of_five}
use Rattle.barline_follow.proofs.costs.least_of.Goals as goal

pub returns : goal.returns
unfolding least_of_five
returns c =
    let all : c.counts.count ≡ 5 = omega (arith, c.counts-test.false, c.counts.auto.count-end) in
    c.counts.invariant ∙ ap (least_below (head_cost_at c.args.heads.now.costs)) all
