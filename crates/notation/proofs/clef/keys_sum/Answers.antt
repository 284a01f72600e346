use Rattle.std.proofs.Common.{length, ap, ◌∙◌, arith}
use Rattle.std.specs.Prelude.{sum}
use Rattle.notation.proofs.MeanKeys.{chord_few, sum_next}
use Rattle.notation.proofs.clef.keys_sum.Goals as goal

pub overflow_add-count : goal.overflow_add-count
overflow_add-count c =
    let few = chord_few c.args.keys in
    let one = ap length c.in-Some.ensures.keys in
    omega (arith, few.0, one, c.keys.invariant.count)

pub overflow_add-total : goal.overflow_add-total
overflow_add-total c =
    let few = chord_few c.args.keys in
    let one = ap sum c.in-Some.ensures.keys ∙ sum_next c.in-Some.key c.next.new.self in
    omega (arith, few.1, one, c.keys.invariant.total)

pub keys-preserved : goal.keys-preserved
keys-preserved c =
    let count = ap length c.in-Some.ensures.keys in
    let total = ap sum c.in-Some.ensures.keys ∙ sum_next c.in-Some.key c.next.new.self in
    record { count = omega (arith, count, c.keys.invariant.count); total = omega (arith, total, c.keys.invariant.total) }

pub returns-clause-few : goal.returns-clause-few
returns-clause-few c = let few = chord_few c.args.keys in omega (arith, few.0, c.keys.invariant.count)

pub returns-clause-low : goal.returns-clause-low
returns-clause-low c = let few = chord_few c.args.keys in omega (arith, few.1, c.keys.invariant.total)
