use Rattle.std.proofs.Common.{◌≡◌, max, arith, rules}
use Rattle.rhythm_base.specs.Bodies.{sizes}
use Rattle.rhythm_base.proofs.Sizes.{part_le}
use Rattle.best_trees.proofs.cut.unequal_pieces.Goals as goal

pub overflow_mul-part : goal.overflow_mul-part
overflow_mul-part c =
    let share : c.max.result ≡ max 1 (sizes c.args.parts.now) = search rules in
    let fits = part_le c.args.parts.now c.loop-part.part-index c.args.width (0, 0) c.loop-part-test.true in
    rw share (omega arith)
