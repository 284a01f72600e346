use Rattle.std.proofs.Common.{◌∙◌, ◌+◌, subst, sym, arith}
use Rattle.chain_bars.proofs.Growth.{IsBuilt}
use Rattle.chain_bars.proofs.Growth.{built_asks, built_more, built_most, built_all}
use Rattle.chain_bars.proofs.levels.grown.Goals as goal

pub paired-requires-clause-few : goal.paired-requires-clause-few
paired-requires-clause-few g c κs within = (built_asks c.args.cells.nodes c.up.levels.items c.up.above c.index.result.now c.requires.cells c.up.invariant.0 c.up.invariant.1 c.up-test.true c.index.ensures).few

pub paired-requires-clause-cheap : goal.paired-requires-clause-cheap
paired-requires-clause-cheap g c κs within = (built_asks c.args.cells.nodes c.up.levels.items c.up.above c.index.result.now c.requires.cells c.up.invariant.0 c.up.invariant.1 c.up-test.true c.index.ensures).cheap

pub returns-in_err-next-clause-most : goal.returns-in_err-next-clause-most
returns-in_err-next-clause-most g c = built_most c.args.cells.nodes c.up.above c.args.products.now c.paired.new.products c.requires.cells (c.in_err-next.ensures.none ∙ c.up.invariant.2)

pub returns-in_err-push-2-clause-most : goal.returns-in_err-push-2-clause-most
returns-in_err-push-2-clause-most g c =
    (built_more c.args.cells.nodes c.index.result.now.nodes c.up.levels.items c.up.above c.args.products.now c.up.products c.paired.new.products c.in_ok-next.next c.requires.cells c.up.invariant.0 c.up.invariant.1
    (built_asks c.args.cells.nodes c.up.levels.items c.up.above c.index.result.now c.requires.cells c.up.invariant.0 c.up.invariant.1 c.up-test.true c.index.ensures).here c.in_ok-next.ensures.nodes c.in_ok-next.ensures.room c.up.invariant.2
    c.in_ok-next.ensures.products).most

pub up-preserved : goal.up-preserved
up-preserved g c =
    let more = built_more c.args.cells.nodes c.index.result.now.nodes c.up.levels.items c.up.above c.args.products.now c.up.products c.paired.new.products c.in_ok-next.next c.requires.cells c.up.invariant.0 c.up.invariant.1
    (built_asks c.args.cells.nodes c.up.levels.items c.up.above c.index.result.now c.requires.cells c.up.invariant.0 c.up.invariant.1 c.up-test.true c.index.ensures).here c.in_ok-next.ensures.nodes c.in_ok-next.ensures.room c.up.invariant.2
    c.in_ok-next.ensures.products in (
      subst (λ ls. IsBuilt c.args.cells.nodes ls (c.up.above + 1)) (sym c.in_ok-push-2.ensures.items) more.levels,
      omega arith,
      more.products,
    )

pub returns-clause-products : goal.returns-clause-products
returns-clause-products g c = built_all c.args.cells.nodes c.up.above c.args.products.now c.up.products c.requires.cells (omega (arith, c.up-test.false, c.up.auto.above-end)) c.up.invariant.2

pub returns-clause-most : goal.returns-clause-most
returns-clause-most g c = built_most c.args.cells.nodes c.up.above c.args.products.now c.up.products c.requires.cells c.up.invariant.2
