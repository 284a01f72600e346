use Rattle.std.proofs.Common.{◌≡◌, ◌<◌, arith, length, rules, sym, ◌∙◌, true}
use Rattle.std.specs.Char.{is_ascii_digit}
use Rattle.std.specs.List.{list_all}
use Rattle.std.proofs.lemmas.Bool.Decides.{nat_tests}
use Rattle.command_line.proofs.Reading.{digits_read}
use Rattle.command_line.proofs.number.number_in.Goals as goal

pub returns-in_err-value : goal.returns-in_err-value
returns-in_err-value c =
    let some : 0 < length c.args.word.now = grind (arith, nat_tests, c.is_empty.ensures) in
    let digits : list_all is_ascii_digit c.args.word.now ≡ true = search rules in
    absurd (digits_read c.args.word.now c.parse.result c.parse.ensures.value.0 some (omega arith) digits (sym c.ok.ensures.value ∙ c.in_err-value.was))
