use Rattle.std.proofs.Common.{arith}
use Rattle.grammar_file.proofs.NumberLemmas.{digits_value_next, numeral_at}
use Rattle.grammar_file.proofs.number.value_of.Goals as goal

pub overflow_sub-digit : goal.overflow_sub-digit
overflow_sub-digit c = (numeral_at c.args.digits.now c.loop-digit.digit-index c.requires c.loop-digit-test.true).0

pub loop-digit-preserved : goal.loop-digit-preserved
loop-digit-preserved c =
    let next = digits_value_next c.args.digits.now c.loop-digit.digit-index c.requires c.loop-digit-test.true in
    omega (arith, c.loop-digit.invariant, c.saturating_mul.ensures, c.from.ensures, c.saturating_add-value.ensures)
