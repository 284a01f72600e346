use Rattle.std.proofs.Common.{◌+◌, ◌≤◌, ◌^◌, ◌-◌, arith}
use Rattle.chain_bars.proofs.Lists.{index_cheap}
use Rattle.chain_bars.proofs.carries.push_below.Goals as goal

pub count_between-requires : goal.count_between-requires
count_between-requires c = λ i j k l x y e f.
    let left : x.cost ≤ 2 ^ 61 - 1 = index_cheap (2 ^ 61 - 1) c.args.nodes.now c.args.left _ c.requires.cheap c.requires.left c.index-nodes-left.is i j x e in
    let right : y.cost ≤ 2 ^ 61 - 1 = index_cheap (2 ^ 61 - 1) c.args.nodes.now (c.args.left + 1) _ c.requires.cheap c.if-left-nodes.true c.index-nodes-left-then-left-nodes.is k l y f in
    omega (arith, left, right)
