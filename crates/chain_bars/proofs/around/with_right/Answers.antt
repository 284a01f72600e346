use Rattle.std.proofs.Common.{◌+◌, ◌≤◌, ◌^◌, ◌-◌, arith}
use Rattle.chain_bars.proofs.Lists.{index_cheap}
use Rattle.chain_bars.proofs.around.with_right.Goals as goal

pub product-requires-clause-small : goal.product-requires-clause-small
product-requires-clause-small g c κs within = λ i j k l x y e f.
    let left : x.cost ≤ 2 ^ 61 - 1 = c.requires.small i j x e in
    let right : y.cost ≤ 2 ^ 61 - 1 = index_cheap (2 ^ 61 - 1) c.args.nodes.now (c.args.place + 1) _ c.requires.cheap c.if-place-nodes.true c.index-nodes-place.is k l y f in
    omega (arith, left, right)
