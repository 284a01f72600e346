use Rattle.std.proofs.Common.{rules, leb}
use Rattle.std.proofs.lemmas.List.Sorted.{IsPartitionedBy-leb, IsPartitionPoint-from_clause}
use Rattle.rhythm_base.specs.declared.note.Bar.{Bar}
use Rattle.tempo_map.proofs.InForce.{found_up_to}
use Rattle.edit_session.proofs.BarStarts.{starts_rise}
use Rattle.edit_session.proofs.span.bars_up_to.Goals as goal

pub returns : goal.returns
returns c =
    let bars = c.args.bars.now in
    let tick = c.args.tick in
    let point = IsPartitionPoint-from_clause (λ (b : Bar). leb b.start tick) bars c.partition_point.result c.partition_point.ensures.partitioned
    (IsPartitionedBy-leb (λ (b : Bar). b.start) bars tick (starts_rise bars c.requires)) (λ a r f k. search rules) in
    found_up_to (λ (b : Bar). b.start) bars c.partition_point.result tick c.partition_point.ensures.bound point
