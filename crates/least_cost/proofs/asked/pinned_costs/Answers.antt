use Rattle.std.proofs.Common.{sym, subst}
use Rattle.least_cost.specs.Costs.{AreCostsOf}
use Rattle.least_cost.proofs.AskedCosts.{pinned-costs}
use Rattle.least_cost.proofs.asked.pinned_costs.Goals as goal

pub returns : goal.returns
returns c =
    let g = c.args.grammar.now in
    let k = c.args.input.now in
    subst (AreCostsOf g k c.args.asked) (sym c.costs_in.ensures) (pinned-costs g k c.requires.ready c.in_ok-trees.trees c.in_ok-trees.ensures c.args.asked)
