use Rattle.std.proofs.Common.{◌∙◌, ◌+◌, ◌*◌, ◌-◌, ◌++◌, ap, arith, subst}
use Rattle.std.specs.Prelude.{drop}
use Rattle.chain_bars.specs.Walks.{AreLonger, refined}
use Rattle.chain_bars.proofs.Descents.{counts_at, below_step}
use Rattle.chain_bars.proofs.carries.one_down.Goals as goal

pub of-to-requires : goal.of-to-requires
of-to-requires c = counts_at c.args.above.now c.nodes.number c.requires.counts

pub nodes-preserved : goal.nodes-preserved
nodes-preserved c =
    let nodes = c.args.nodes.now in
    let above = c.args.above.now in
    let number = c.nodes.number in
    let more = c.push_below.new.counts.items in
    let longer : AreLonger nodes (2 * (number - 1)) c.nodes.from c.of-to.result c.nodes.counts.items more = c.in_ok-push_below.ensures in
    let told = subst (λ to. AreLonger nodes (2 * (number - 1)) c.nodes.from to c.nodes.counts.items more) c.of-to.ensures longer in (
      omega arith,
      ap (λ to. more ++ refined (drop (2 * (number + 1 - 1)) nodes) to (drop (number + 1) above)) c.of-to.ensures
          ∙ below_step nodes above c.nodes.counts.items more number (number + 1) (2 * (number - 1)) (2 * (number + 1 - 1)) c.nodes.from
          (omega arith) (omega (arith, c.nodes.invariant.0)) (omega (arith, c.nodes-test.true)) (omega (arith, c.nodes.invariant.0, c.nodes-test.true, c.requires.fits))
          told.two told.lone (λ lone. omega (arith, lone, c.requires.covers)) c.nodes.invariant.1,
    )
