-- Numbers in digits.
use Rattle.std.proofs.Common.{◌≡◌, ℕ, ◌+◌, ◌*◌, ◌-◌, ◌<◌, ◌≤◌, ◌&&◌, true, false, List, [], ◌∷◌, length, get_or, take, Some, None, refl, arith}
use Rattle.std.specs.Prelude.{nat_le}
use Rattle.std.proofs.lemmas.Bool.{and_parts, leb-true, le-leb}
use Rattle.std.proofs.lemmas.Bool.Decides.{nat_tests}
use Rattle.std.proofs.lemmas.Int.Digits.{digits_value_more}
use Rattle.std.proofs.lemmas.Str.{digit_value_digit}
use Rattle.std.proofs.lemmas.Str.Parse.{digit_at}
use Rattle.std.specs.Char.{is_ascii_digit, digit_value}
use Rattle.std.specs.Int.{IsInRange}
use Rattle.std.specs.List.{list_all}
use Rattle.std.specs.Str.Parse.{digits_value, digits_value_after}
use Rattle.text_words.specs.Numbers.{is_plain, number_of}
use Rattle.rhythm_base.proofs.Numerals.{numerals}

-- each byte is a digit
pub digit_there : (text : List ℕ) (i : ℕ) → list_all is_ascii_digit text ≡ true → i < length text → IsInRange 48 57 (get_or text i 0)
digit_there text i e within = digit_at text i (numerals.to text e) within

-- one digit more
pub one_digit_more : (text : List ℕ) (i : ℕ) → list_all is_ascii_digit text ≡ true → i < length text
    → digits_value 10 (take (i + 1) text) ≡ 10 * digits_value 10 (take i text) + (get_or text i 0 - 48)
one_digit_more text i e within =
    let digit = digit_value_digit (get_or text i 0) (digit_there text i e within) in
    let more = digits_value_more 10 text i within in
    omega arith

-- a digit from 1 on
first_digit : (d : ℕ) → (nat_le 49 d && nat_le d 57) ≡ true → (49 ≤ d) × (d ≤ 57)
first_digit d e = let parts = and_parts (nat_le 49 d) (nat_le d 57) e in (leb-true 49 d parts.0, leb-true d 57 parts.1)

-- a text that is digits without a leading 0
pub plain_digits : (text : List ℕ) → is_plain text ≡ true → list_all is_ascii_digit text ≡ true
plain_digits [] e = cc
plain_digits (d ∷ ds) e =
    let parts = and_parts (nat_le 49 d && nat_le d 57) (list_all is_ascii_digit ds) e in
    let range = first_digit d parts.0 in
    digit d ds range.0 range.1 parts.1
  where
    digit : (d : ℕ) (ds : List ℕ) → 49 ≤ d → d ≤ 57 → list_all is_ascii_digit ds ≡ true → list_all is_ascii_digit (d ∷ ds) ≡ true
    digit d ds low high rest = let first : is_ascii_digit d ≡ true = grind (arith, nat_tests) in rw first rest

-- further digits do not make a number less
value_grows : (n : ℕ) (ds : List ℕ) → n ≤ digits_value_after 10 n ds
value_grows n [] = omega arith
value_grows n (d ∷ ds) = omega (arith, value_grows (n * 10 + digit_value d) ds)

-- is at least 1
pub plain_some : (text : List ℕ) → is_plain text ≡ true → 1 ≤ digits_value 10 text
plain_some [] e = cc
plain_some (d ∷ ds) e =
    let parts = and_parts (nat_le 49 d && nat_le d 57) (list_all is_ascii_digit ds) e in
    let range = first_digit d parts.0 in
    let digit = digit_value_digit d (omega (arith, range.0), omega (arith, range.1)) in
    let grows = value_grows (0 * 10 + digit_value d) ds in
    omega (arith, grows, digit, range.0)

-- a number that is read
pub number_read : (most : ℕ) (text : List ℕ) → is_plain text ≡ true → digits_value 10 text ≤ most → Some (digits_value 10 text) ≡ number_of most text
unfolding number_of
number_read most text plain within = rw (plain, le-leb _ _ within) refl

pub number_past : (most : ℕ) (text : List ℕ) → is_plain text ≡ true → most < digits_value 10 text → None ≡ number_of most text
unfolding number_of
number_past most text plain past = let test : nat_le (digits_value 10 text) most ≡ false = grind (arith, nat_tests) in rw (plain, test) refl

pub number_odd : (most : ℕ) (text : List ℕ) → is_plain text ≡ false → None ≡ number_of most text
unfolding number_of
number_odd most text odd = rw odd refl
