use Rattle.std.proofs.Common.{rules, leb}
use Rattle.std.proofs.lemmas.List.Sorted.{IsPartitionedBy-leb, IsPartitionPoint-from_clause}
use Rattle.rhythm_base.specs.NoteBlocks.{Block}
use Rattle.rhythm_base.proofs.NoteBlocks.{found_block, from_rise}
use Rattle.rhythm_base.proofs.notes.block_of.Goals as goal

pub returns : goal.returns
returns c =
    let bs = c.args.blocks.now in
    let place = c.args.place in
    let point = IsPartitionPoint-from_clause (λ (b : Block). leb b.from place) bs c.partition_point.result c.partition_point.ensures.partitioned
    (IsPartitionedBy-leb (λ (b : Block). b.from) bs place (λ i j d le lt. from_rise 0 bs c.args.count i j d c.requires le lt)) (λ a r f k. search rules) in
    found_block bs c.args.count c.partition_point.result place c.requires c.partition_point.ensures.bound point c.checked_sub.result c.checked_sub.ensures
