use Rattle.std.proofs.Common.{rules, leb}
use Rattle.std.proofs.lemmas.List.Sorted.{IsPartitionedBy-leb, IsPartitionPoint-from_clause}
use Rattle.tempo_map.proofs.InForce.{by_tick, found_up_to}
use Rattle.tempo_map.proofs.in_force.tempos_up_to.Goals as goal

pub returns : goal.returns
returns c =
    let xs = c.args.tempos.now in
    let t = c.args.tick in
    let order = by_tick (λ y. y.tick) xs c.requires in
    let point = IsPartitionPoint-from_clause (λ y. leb y.tick t) xs c.partition_point.result c.partition_point.ensures.partitioned (IsPartitionedBy-leb (λ y. y.tick) xs t order) (λ a r f k. search rules) in
    found_up_to (λ y. y.tick) xs c.partition_point.result t c.partition_point.ensures.bound point
