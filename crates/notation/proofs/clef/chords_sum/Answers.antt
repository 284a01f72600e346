use Rattle.std.proofs.Common.{sym, ap₂, ◌+◌, ◌∙◌, arith}
use Rattle.notation.proofs.MeanKeys.{count_more, total_more}
use Rattle.notation.proofs.clef.chords_sum.Goals as goal

pub sounds-preserved : goal.sounds-preserved
sounds-preserved c =
    let count = count_more c.args.sounds.now c.sounds.sound-index c.sound-item.result c.sounds-test.true c.sound-item.is in
    let total = total_more c.args.sounds.now c.sounds.sound-index c.sound-item.result c.sounds-test.true c.sound-item.is in
    record {
      count = ap₂ (λ m n. m + n) c.sounds.invariant.count c.begun_sum-own.ensures.count ∙ sym count;
      total = ap₂ (λ m n. m + n) c.sounds.invariant.total c.begun_sum-own.ensures.total ∙ sym total;
      few = omega (arith, c.sounds.invariant.few, c.begun_sum-own.ensures.few);
      low = omega (arith, c.sounds.invariant.low, c.begun_sum-own.ensures.low);
    }
