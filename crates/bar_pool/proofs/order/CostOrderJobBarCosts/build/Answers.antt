use Rattle.std.proofs.Common.{◌≡◌, get_or, subst}
use Rattle.std.specs.Prelude.{Some, slice_get}
use Rattle.std.proofs.lemmas.Option.{slice_get-get_or}
use Rattle.bar_pool.specs.Costs.{AreCosts, AreCostsAt}
use Rattle.bar_pool.specs.declared.order.AskedCell.{AskedCell}
use Rattle.least_cost.specs.declared.costs.BarCosts.{BarCosts}
use Rattle.bar_pool.proofs.Closing.{with_both}
use Rattle.bar_pool.proofs.order.CostOrderJobBarCosts.build.Goals as goal

pub returns : goal.returns
returns c =
    let g = c.args.self.now.grammar.now in
    let cells = c.args.self.now.cells.now in
    let own : AskedCell = get_or cells c.args.number c.index-self-number.result in
    let at : slice_get cells c.args.number ≡ Some own = slice_get-get_or cells c.args.number c.index-self-number.result c.requires.within in
    let P : BarCosts → Type 0 = AreCosts g own in
    let one : (k : BarCosts) → P k → AreCostsAt g cells c.args.number k
    = λ k h cell e. let same : own ≡ cell = cc in subst (λ x. AreCosts g x k) same h in
    with_both c.build_costs.result P P (AreCostsAt g cells c.args.number) (λ k h _. one k h) c.build_costs.ensures c.build_costs.ensures
