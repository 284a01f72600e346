use Rattle.std.proofs.Common.{◌≡◌, ◌∙◌, refl, sym, ap, subst}
use Rattle.std.specs.Prelude.{Some, None}
use Rattle.grammar_plan.specs.Plans.{pair_of}
use Rattle.least_rows.specs.Searches.{ground_in}
use Rattle.least_rows.specs.Ways.{AreWaysBelow, nearer_way, quiet_rank, way_in, way_on}
use Rattle.least_rows.specs.Steps.{way_to_none}
use Rattle.least_rows.proofs.Asked.{next-one, quiet-cheap, quiet-row}
use Rattle.least_rows.proofs.Steps.{below-more, below-skip}
use Rattle.least_rows.proofs.quiet_ways.offer_quiet.Goals as goal

pub offer_rest-requires-clause-tree : goal.offer_rest-requires-clause-tree
offer_rest-requires-clause-tree c =
    quiet-cheap c.args.search.now.grammar.now c.args.search.now.plan.now c.args.seat c.args.quiet c.args.count c.least_quiet-tree.result c.least_quiet-tree.ensures c.requires.seat

pub returns-in-None : goal.returns-in-None
returns-in-None c = λ place s at calm.
    let d = ground_in c.args.search.now in
    next-one (λ n. AreWaysBelow d place (pair_of s) (way_in c.args.ways.now) n (way_to_none c.args.best.now)) c.args.count
    (below-skip d place (pair_of s) (way_in c.args.ways.now) c.args.count (way_to_none c.args.best.now) (way_to_none c.args.best.now) (c.requires.below place s at calm) (subst (λ n. way_in c.args.ways.now n ≡ None) c.index.ensures.is c.in-None.is) (λ b lb. refl))

pub returns-in-Some : goal.returns-in-Some
returns-in-Some c = λ place s at calm.
    let bar = c.args.search.now in
    let d = ground_in bar in
    let ranks = quiet_rank c.least_quiet-tree.result in
    next-one (λ n. AreWaysBelow d place (pair_of s) (way_in c.args.ways.now) n (way_to_none c.offer_rest.new.best)) c.args.count
    (below-more d place (pair_of s) (way_in c.args.ways.now) c.args.count (way_to_none c.args.best.now) (way_to_none c.offer_rest.new.best) (c.requires.below place s at calm) ranks
    (quiet-row bar.grammar.now bar.input.now c.args.search.now.plan.now c.requires.search.ready c.requires.search.plan_of c.args.seat c.args.quiet c.args.count c.least_quiet-tree.result c.least_quiet-tree.ensures place s at calm)
    (λ b lb. c.offer_rest.ensures b lb ∙ ap (λ o. nearer_way (way_to_none c.args.best.now b) (way_on o c.args.count (ranks b))) (sym (subst (λ n. way_in c.args.ways.now n ≡ Some c.in-Some.way) c.index.ensures.is c.in-Some.is))))
