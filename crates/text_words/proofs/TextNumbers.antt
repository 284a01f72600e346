-- Numbers in digits are read as they are written.
use Rattle.std.proofs.Common.{◌≡◌, ℕ, ◌^◌, ◌<◌, ◌≤◌, true, List, [], ◌∷◌, length, refl, sym, ap, ◌∙◌, arith}
use Rattle.std.specs.Prelude.{Some, decimal, get_or, nat_le}
use Rattle.std.specs.Char.{is_ascii_digit}
use Rattle.std.specs.List.{list_all}
use Rattle.std.proofs.lemmas.Bool.{and_parts}
use Rattle.std.proofs.lemmas.Bool.Decides.{nat_tests}
use Rattle.std.proofs.lemmas.Fmt.{decimal_nonempty, digits_value-decimal, first_decimal}
use Rattle.rhythm_base.proofs.Numerals.{numerals}
use Rattle.text_words.specs.Numbers.{is_plain, number_of}
use Rattle.text_words.proofs.NumberLemmas.{number_read}
use Rattle.text_words.proofs.TextTests.{decimal_digits}

-- digits without a leading zero
pub digits_plain : (ds : List ℕ) → list_all is_ascii_digit ds ≡ true → 0 < length ds → 48 < get_or ds 0 0 → is_plain ds ≡ true
digits_plain [] all some first = absurd (omega (arith, some))
digits_plain (d ∷ ds) all some first =
    let parts = and_parts (is_ascii_digit d) (list_all is_ascii_digit ds) all in
    low d ds first parts.0 parts.1
  where
    low : (d : ℕ) (ds : List ℕ) → 48 < d → is_ascii_digit d ≡ true → list_all is_ascii_digit ds ≡ true → is_plain (d ∷ ds) ≡ true
    low d ds first digit rest =
        let high : nat_le d 57 ≡ true = grind (arith, nat_tests) in
        let above : nat_le 49 d ≡ true = grind (arith, nat_tests) in
        rw (above, high, rest) refl

-- a number from 1 to a greatest one
pub number_back : (most n : ℕ) → 1 ≤ n → n ≤ most → most < 2 ^ 64 → number_of most (decimal n) ≡ Some n
number_back most n some few fits =
    let small : n < 2 ^ 64 = omega (arith, few, fits) in
    let value = digits_value-decimal numerals n small in
    let plain = digits_plain (decimal n) (decimal_digits n) (decimal_nonempty n small) (first_decimal n some small) in
    sym (number_read most (decimal n) plain (omega (arith, value, few))) ∙ ap Some value
