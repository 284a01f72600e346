use Rattle.std.proofs.Common.{arith}
use Rattle.text_words.proofs.NumberLemmas.{digit_there, one_digit_more}
use Rattle.kern_reader.proofs.number.digits_number.Goals as goal

pub overflow_sub-digit : goal.overflow_sub-digit
overflow_sub-digit c = (digit_there c.args.digits.now c.digits.digit-index c.requires c.digits-test.true).0

pub digits-preserved : goal.digits-preserved
digits-preserved c =
    let next = one_digit_more c.args.digits.now c.digits.digit-index c.requires c.digits-test.true in
    omega (arith, c.digits.invariant, c.saturating_mul.ensures, c.from.ensures, c.saturating_add-value.ensures)
