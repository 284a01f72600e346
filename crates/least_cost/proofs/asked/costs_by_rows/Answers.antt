use Rattle.std.proofs.Common.{sym, subst}
use Rattle.least_rows.specs.QuietTrees.{bar_trees}
use Rattle.least_cost.specs.Costs.{AreCostsOf}
use Rattle.least_cost.proofs.AskedCosts.{quiet-costs, rows-costs}
use Rattle.least_cost.proofs.asked.costs_by_rows.Goals as goal

pub returns-in-Some : goal.returns-in-Some
returns-in-Some c =
    let g = c.args.grammar.now in
    let k = c.args.input.now in
    subst (AreCostsOf g k c.args.asked) (sym c.costs_in.ensures)
    (quiet-costs g k c.requires.ready c.requires.pin (bar_trees c.in_ok-trees.trees c.quiet_trees.new.self.trees) c.in_ok-trees.ensures c.args.asked)

pub returns : goal.returns
returns c =
    let g = c.args.grammar.now in
    let k = c.args.input.now in
    subst (AreCostsOf g k c.args.asked) (sym c.costs_in-2.ensures)
    (rows-costs g k c.requires.ready c.requires.pin c.search_asked.new.self.trees.bests.rows c.args.asked c.in_ok-search_asked.ensures)
