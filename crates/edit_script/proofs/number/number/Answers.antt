use Rattle.std.proofs.Common.{◌≡◌, ◌<◌, ℕ, List, sym, subst}
use Rattle.std.specs.Str.Parse.{IsNumeral, digits_value, without_leading_plus}
use Rattle.edit_script.proofs.NumberLemmas.{digits_are_text, is_read, not_read, not_text, same_text}
use Rattle.edit_script.proofs.WordLemmas.{finds_none}
use Rattle.edit_script.proofs.number.number.Goals as goal

pub returns-in_err-digits : goal.returns-in_err-digits
returns-in_err-digits c =
    finds_none _ c.from_residual.result c.from_residual.ensures (λ n is.
    not_text c.from_utf8.result _ _ _ c.from_utf8.ensures.cases c.in_err-digits.ensures.value (digits_are_text c.args.word.now is.digits))

pub returns-in_err-value : goal.returns-in_err-value
returns-in_err-value c =
    let Read : List ℕ → Type 0 = λ text. IsNumeral 10 (without_leading_plus text) × (digits_value 10 (without_leading_plus text) < 4294967296) in
    let same = same_text c.from_utf8.result c.in_ok-digits.digits _ (λ s. s.now ≡ c.args.word.now) _ c.from_utf8.ensures.cases c.in_ok-digits.ensures.value in
    finds_none _ c.from_residual-in_err-value.result c.from_residual-in_err-value.ensures (λ n is.
    not_read c.parse.result _ _ c.parse.ensures.value.0 c.in_err-value.ensures.value
    (subst Read (sym same) (is_read c.args.most n c.args.word.now c.ranges.most.fits is)))
