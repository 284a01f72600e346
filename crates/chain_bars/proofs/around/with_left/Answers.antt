use Rattle.std.proofs.Common.{◌*◌, ◌/◌, ◌<◌, ◌≤◌, ◌^◌, ◌-◌, length, arith}
use Rattle.chain_bars.proofs.Lists.{index_cheap}
use Rattle.chain_bars.proofs.around.with_left.Goals as goal

pub product-requires-clause-small : goal.product-requires-clause-small
product-requires-clause-small g c κs within = λ i j k l x y e f.
    let low : 2 * (c.args.place / 2) < length c.args.nodes.now = omega (arith, c.requires.place) in
    let left : x.cost ≤ 2 ^ 61 - 1 = index_cheap (2 ^ 61 - 1) c.args.nodes.now (2 * (c.args.place / 2)) _ c.requires.cheap low c.index-nodes-left.is i j x e in
    let right : y.cost ≤ 2 ^ 61 - 1 = c.requires.small k l y f in
    omega (arith, left, right)
