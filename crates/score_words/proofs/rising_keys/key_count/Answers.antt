use Rattle.std.proofs.Common.{length, ap, arith}
use Rattle.score_words.proofs.KeyBits.{rising_few}
use Rattle.score_words.proofs.rising_keys.key_count.Goals as goal

pub overflow_add-count : goal.overflow_add-count
overflow_add-count c =
    let few = rising_few c.args.keys in
    let one = ap length c.in-Some.ensures.keys in
    omega (arith, few, one, c.keys.invariant)
