use Rattle.std.proofs.Common.{sym, subst, arith}
use Rattle.least_rows.specs.Steps.{IsLeafAt}
use Rattle.least_rows.proofs.LeafChoices.{crowded-choices}
use Rattle.least_rows.proofs.leaf_choices.offer_leaf.Goals as goal

pub returns-in-None : goal.returns-in-None
returns-in-None c = λ place wide within here.
    let bar = c.args.search.now in
    crowded-choices bar.grammar.now bar.input.now c.args.search.now.plan.now c.requires.search.ready place c.args.seat.now.width c.args.seat.now.symbol c.args.from wide within (omega (arith, c.count-few.ensures.is, c.count-few.ensures.within))
    c.args.best.now (subst (IsLeafAt bar.grammar.now bar.input.now place c.args.seat.now.width) c.in-None.is here) (λ b lb. sym (c.requires.none b lb))
