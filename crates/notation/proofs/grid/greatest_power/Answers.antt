use Rattle.std.proofs.Common.{◌≡◌, ◌*◌, ◌^◌, ◌%◌, arith}
use Rattle.durations.proofs.Powers.{bit_is}
use Rattle.notation.proofs.grid.greatest_power.Goals as goal

pub returns : goal.returns
returns c =
    let k = c.ilog2.result in
    let is : 1 * 2 ^ k % 2 ^ 64 ≡ 2 ^ k = bit_is k c.ilog2.ensures.bound in
    ((k, is), omega (arith, is, c.ilog2.ensures.power_le), omega (arith, is, c.ilog2.ensures.next_power_gt))
