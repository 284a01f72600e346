use Rattle.std.proofs.Common.{◌≤◌, ◌*◌, arith}
use Rattle.std.proofs.Math.Nat.{mul-le-mul}
use Rattle.derivation.proofs.parts.sound_length.Goals as goal

pub overflow_mul-result : goal.overflow_mul-result
overflow_mul-result c =
    let wide : c.args.sound.now.width ≤ 65535 = omega arith in
    let product : c.args.sound.now.width * c.parts_of_unit.result ≤ 65535 * 4096 = mul-le-mul wide c.parts_of_unit.ensures.small in
    omega (arith, product)
