-- Numbers in digits.
use Rattle.std.proofs.Common.{◌≡◌, ℕ, ◌+◌, ◌*◌, ◌-◌, ◌^◌, ◌<◌, ◌≤◌, ◌&&◌, nat_le, true, false, List, length, get_or, take, Ok, IfOk, refl, sym, ◌∙◌, arith}
use Rattle.std.proofs.lemmas.Bool.{and_parts, le-leb, leb-true}
use Rattle.std.proofs.lemmas.Bool.Decides.{nat_tests}
use Rattle.std.proofs.lemmas.Fmt.{decimal_nonempty, digits_decimal, digits_value-decimal}
use Rattle.std.proofs.lemmas.Int.Digits.{digits_value_more}
use Rattle.std.proofs.lemmas.Str.{digit_value_digit}
use Rattle.std.proofs.lemmas.Str.Parse.{digit_at}
use Rattle.std.specs.Char.{is_ascii_digit}
use Rattle.std.specs.Fmt.{decimal}
use Rattle.std.specs.Int.{IsInRange}
use Rattle.std.specs.List.{list_all}
use Rattle.std.specs.Str.Parse.{digits_value}
use Rattle.grammar_file.proofs.OutcomeLemmas.{test_ok}
use Rattle.grammar_file.specs.Numbers.{is_numeral, number_within}
use Rattle.rhythm_base.proofs.Numerals.{numerals}

-- at one byte or more the digits decide
pub is_numeral-some : (word : List ℕ) → 1 ≤ length word → list_all is_ascii_digit word ≡ is_numeral word
unfolding is_numeral
is_numeral-some word some = grind (arith, nat_tests)

-- no byte
pub is_numeral-empty : (word : List ℕ) → length word < 1 → false ≡ is_numeral word
unfolding is_numeral
is_numeral-empty word none = grind (arith, nat_tests)

pub numeral_digits : (word : List ℕ) → is_numeral word ≡ true → list_all is_ascii_digit word ≡ true
unfolding is_numeral
numeral_digits word e = (and_parts _ _ e).1

-- each byte is a digit
pub numeral_at : (word : List ℕ) (i : ℕ) → is_numeral word ≡ true → i < length word → IsInRange 48 57 (get_or word i 0)
numeral_at word i e within = digit_at word i (numerals.to word (numeral_digits word e)) within

-- one digit more
pub digits_value_next : (word : List ℕ) (i : ℕ) → is_numeral word ≡ true → i < length word
    → digits_value 10 (take (i + 1) word) ≡ 10 * digits_value 10 (take i word) + (get_or word i 0 - 48)
digits_value_next word i e within =
    let digit = digit_value_digit (get_or word i 0) (numeral_at word i e within) in
    let more = digits_value_more 10 word i within in
    omega arith

-- a number in its range
abbrev pub IsWithin : ℕ → ℕ → ℕ → Type 0
IsWithin low high n = (low ≤ n) × (n ≤ high)

pub number_sound : (low high : ℕ) (digits : List ℕ) → IfOk (number_within low high digits) (IsWithin low high)
number_sound low high digits =
    test_ok (IsWithin low high) (nat_le low (digits_value 10 digits) && nat_le (digits_value 10 digits) high) (Ok (digits_value 10 digits)) _
    (λ passed. let parts = and_parts _ _ passed in (leb-true _ _ parts.0, leb-true _ _ parts.1))

-- numbers that are written in digits
pub numeral_decimal : (n : ℕ) → n < 2 ^ 64 → is_numeral (decimal n) ≡ true
numeral_decimal n small = sym (is_numeral-some (decimal n) (omega (arith, decimal_nonempty n small))) ∙ digits_decimal numerals n small

pub within_decimal : (low high n : ℕ) → low ≤ n → n ≤ high → n < 2 ^ 64 → number_within low high (decimal n) ≡ Ok n
within_decimal low high n least most small = rw (digits_value-decimal numerals n small) (rw (le-leb low n least, le-leb n high most) refl)
