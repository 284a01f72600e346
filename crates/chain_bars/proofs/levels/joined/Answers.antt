use Rattle.std.proofs.Common.{◌∙◌, ◌*◌, ◌+◌, ◌≤◌, ◌^◌, ◌-◌, [], length, sym, refl, arith}
use Rattle.rhythm_base.specs.Ranked.{product_of}
use Rattle.chain_bars.proofs.Towers.{node_two, node_one}
use Rattle.chain_bars.proofs.Lists.{index_same, index_cheap}
use Rattle.chain_bars.proofs.levels.joined.Goals as goal

pub product-requires-clause-small : goal.product-requires-clause-small
product-requires-clause-small g c κs within = λ i j k l x y e f.
    let found = c.in-Some.ensures.lookup in
    let left : x.cost ≤ 2 ^ 61 - 1 = index_cheap (2 ^ 61 - 1) c.args.nodes.now (2 * c.args.at) _ c.requires.cheap c.requires.at c.index-nodes-at.is i j x e in
    let right : y.cost ≤ 2 ^ 61 - 1 = index_cheap (2 ^ 61 - 1) c.args.nodes.now (2 * c.args.at + 1) _ c.requires.cheap found.3.0 found.1 k l y f in
    omega (arith, left, right)

pub returns-in-Some-clause-result : goal.returns-in-Some-clause-result
returns-in-Some-clause-result g c =
    let found = c.in-Some.ensures.lookup in
    let left = index_same c.args.nodes.now (2 * c.args.at) c.index-nodes-at.result [] c.requires.at c.index-nodes-at.is in
    c.product.ensures.result ∙ (λ i. product_of (left i) (found.3.1 [] i)) ∙ sym (node_two c.args.nodes.now c.args.at (2 * c.args.at) (2 * c.args.at + 1) refl refl found.3.0)

pub returns-in-None-clause-result : goal.returns-in-None-clause-result
returns-in-None-clause-result g c =
    let end : length c.args.nodes.now ≤ 2 * c.args.at + 1 = c.in-None.ensures.lookup.3 in
    index_same c.args.nodes.now (2 * c.args.at) c.index-nodes-at.result [] c.requires.at c.index-nodes-at.is
    ∙ sym (node_one c.args.nodes.now c.args.at (2 * c.args.at) refl (omega (arith, c.requires.at, end)))
