use Rattle.std.proofs.Common.{◌≡◌, ◌*◌, ◌^◌, ◌%◌, arith}
use Rattle.durations.proofs.Powers.{power_half, power_largest, bit_is}
use Rattle.durations.proofs.Plain.{not_one, next_largest}
use Rattle.durations.proofs.length.taken.Goals as goal

pub powers-init : goal.powers-init
powers-init c =
    let k = c.ilog2.result in
    let is : 1 * 2 ^ k % 2 ^ 64 ≡ 2 ^ k = bit_is k c.ilog2.ensures.bound in
    record {
      power = (k, is);
      within = omega (arith, is, c.ilog2.ensures.power_le);
      largest = λ d other h le plain. let e = power_largest c.args.parts k d c.ilog2.ensures.next_power_gt h le in omega (arith, e, is);
    }

pub powers-preserved : goal.powers-preserved
powers-preserved c =
    let h = c.powers.invariant in
    let none = c.in_default.ensures.none in
    record {
      power = power_half c.powers.power (not_one _ _ h.power none) h.power;
      within = omega (arith, h.within);
      largest = λ d other power le plain. next_largest c.powers.power c.args.whole d other h.power none power plain (h.largest d other power le plain);
    }
