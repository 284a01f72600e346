use Rattle.std.proofs.Common.{rules, tests, arith, ap, not, ◌∙◌}
use Rattle.std.proofs.lemmas.Bool.Decides.{nat_tests}
use Rattle.std.proofs.lemmas.Iterator.{YieldsList-from_slice}
use Rattle.std.proofs.lemmas.Iterator.Search.{all_from_yields_List}
use Rattle.std.specs.Char.{is_ascii_digit}
use Rattle.grammar_file.proofs.NumberLemmas.{is_numeral-some, is_numeral-empty}
use Rattle.grammar_file.proofs.number.is_numeral.Goals as goal

pub returns-then-not-is_empty : goal.returns-then-not-is_empty
returns-then-not-is_empty c =
    all_from_yields_List is_ascii_digit _ _ _ c.all.ensures.ran
    (YieldsList-from_slice c.args.word.now c.iter.ensures.rest)
    (λ x b q k. search (rules, tests))
    ∙ is_numeral-some c.args.word.now (grind (arith, nat_tests, c.is_empty.ensures, c.if-not-is_empty.true))

pub returns-else-not-is_empty : goal.returns-else-not-is_empty
returns-else-not-is_empty c =
    ap not c.if-not-is_empty.false
    ∙ is_numeral-empty c.args.word.now (grind (arith, nat_tests, c.is_empty.ensures, c.if-not-is_empty.false))
