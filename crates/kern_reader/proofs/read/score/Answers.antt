use Rattle.std.proofs.Common.{◌<◌, ◌^◌, arith}
use Rattle.kern_reader.proofs.TextLemmas.{kern_score}
use Rattle.kern_reader.proofs.read.score.Goals as goal

pub invariant_of-result : goal.invariant_of-result
invariant_of-result c =
    let (before, is) = c.requires in
    let small : c.args.number < 2 ^ 32 = omega arith in
    kern_score c.args.number before c.args.reading is small
