use Rattle.std.proofs.Common.{arith}
use Rattle.smf_reader.proofs.SevenBits.{three_digits_below}
use Rattle.smf_reader.proofs.quantity.seven_bits.Goals as goal

pub overflow_mul-number : goal.overflow_mul-number
overflow_mul-number c =
    let s = c.loop-byte in
    omega (arith, three_digits_below s.byte-index s.number (omega arith) s.invariant.below)
