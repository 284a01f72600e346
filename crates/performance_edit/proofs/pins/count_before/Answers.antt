use Rattle.std.proofs.Common.{rules}
use Rattle.std.proofs.lemmas.List.Sorted.{IsPartitionPoint-from_clause}
use Rattle.rhythm_base.specs.Performance.{place_of_pin}
use Rattle.performance_edit.proofs.Places.{before-front, is_before}
use Rattle.performance_edit.proofs.pins.count_before.Goals as goal

pub returns : goal.returns
returns c =
    let point = IsPartitionPoint-from_clause (is_before place_of_pin c.args.pin.now) c.args.pins.now c.partition_point.result c.partition_point.ensures.partitioned
    (before-front place_of_pin c.args.pin.now c.args.pins.now c.requires) (λ a r f k. search rules) in
    record { within = c.partition_point.ensures.bound; front = point.0; back = point.1 }
