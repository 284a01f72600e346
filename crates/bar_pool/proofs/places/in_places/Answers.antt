use Rattle.std.proofs.Common.{rules, arith, ◌≡◌, length}
use Rattle.std.proofs.lemmas.Result.{IfOk-weaker}
use Rattle.bar_pool.proofs.Counting.{below_from, most_one}
use Rattle.bar_pool.proofs.Placed.{AreFilled-from, StandIn-from}
use Rattle.bar_pool.proofs.places.in_places.Goals as goal

pub all_of-requires : goal.all_of-requires
all_of-requires g c =
    let size : length c.fill.new.places.items ≡ c.args.count = search rules in
    AreFilled-from c.args.numbered.items c.fill.new.places.items c.args.count c.requires size c.fill.ensures.stand

pub returns-clause-places : goal.returns-clause-places
returns-clause-places g c =
    IfOk-weaker c.all_of.result _ _ (λ v h. StandIn-from c.args.numbered.items c.fill.new.places.items v.items h c.fill.ensures.stand) c.all_of.ensures

pub fill-requires-clause-once : goal.fill-requires-clause-once
fill-requires-clause-once g c = λ x. omega (arith, c.requires x, most_one x c.args.count)

pub fill-requires-clause-within : goal.fill-requires-clause-within
fill-requires-clause-within g c = λ x h.
    let low = below_from x c.args.count (omega (arith, h, c.requires x)) in
    search (rules, low)
