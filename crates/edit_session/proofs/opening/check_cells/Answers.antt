use Rattle.std.proofs.Common.{◌*◌, ◌≤◌, length, ap, arith}
use Rattle.std.proofs.Math.Nat.{mul-le-mul}
use Rattle.edit_session.proofs.Channels.{few_channels}
use Rattle.edit_session.proofs.opening.check_cells.Goals as goal

pub overflow_mul-count : goal.overflow_mul-count
overflow_mul-count c =
    let few = few_channels c.args.performance.now c.bars.ensures.formed in
    let channels = ap length c.channels.ensures in
    let bars = ap length c.bars.ensures.value in
    let most : length c.channels.result.now * length c.bars.result.now ≤ 16 * 4096 = mul-le-mul {n₂ = 16} {m₂ = 4096} (omega (arith, few, channels)) (omega (arith, c.bars.ensures.formed.few_bars, bars)) in
    omega (arith, most)
