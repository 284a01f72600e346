-- Numbers in digits.
use Rattle.std.proofs.Common.{◌≡◌, ℕ, ◌<◌, ◌==◌, true, false, Some, None, Result, Ok, Err, List, [], ◌∷◌, arith, refl, sym, subst}
use Rattle.std.proofs.lemmas.Option.{same_Some}
use Rattle.std.specs.Result.{MatchResult, OkIff, result_ok}
use Rattle.std.proofs.lemmas.Bool.{and_parts}
use Rattle.std.proofs.lemmas.Bool.Decides.{nat_tests}
use Rattle.std.proofs.lemmas.Fmt.{IsAscii-from_digits}
use Rattle.std.proofs.lemmas.Str.{IsUtf8-from_ascii}
use Rattle.std.specs.Char.{is_ascii_digit}
use Rattle.std.specs.List.{list_all}
use Rattle.std.specs.Str.{IsUtf8}
use Rattle.std.specs.Str.Parse.{IsNumeral, digits_value, without_leading_plus}
use Rattle.rhythm_base.specs.Numerals.{IsNumber}
use Rattle.rhythm_base.proofs.Numerals.{numerals}

-- bytes that are no text, and the bytes of a text
pub not_text : {A E : Type 0} (r : Result A E) (P : A → Type 0) (Q : E → Type 0) (N : Type 0) → MatchResult r P (λ e. N × Q e) → None ≡ result_ok r → N
not_text (Ok x) P Q N cases e = cc
not_text (Err x) P Q N cases e = cases.0

pub same_text : {A E : Type 0} (r : Result A E) (x : A) (P : Type 0) (Is : A → Type 0) (Q : E → Type 0) → MatchResult r (λ s. Is s × P) Q → Some x ≡ result_ok r → Is x
same_text (Ok y) x P Is Q cases e = subst Is (sym (same_Some x y e)) cases.0
same_text (Err y) x P Is Q cases e = cc

-- a text that could not be read as a number
pub not_read : {A E : Type 0} (r : Result A E) (P : Type 0) (v : A) → OkIff r P v → None ≡ result_ok r → P → ⊥
not_read (Ok x) P v cases e = cc
not_read (Err x) P v cases e = cases

-- digits are text
pub digits_are_text : (word : List ℕ) → list_all is_ascii_digit word ≡ true → IsUtf8 word
digits_are_text word e = IsUtf8-from_ascii word (IsAscii-from_digits word (numerals.to word e))

-- digits do not begin with a plus
pub no_plus : (word : List ℕ) → list_all is_ascii_digit word ≡ true → without_leading_plus word ≡ word
no_plus [] e = refl
no_plus (b ∷ bs) e = let digit = (and_parts (is_ascii_digit b) _ e).0 in let other : (b == 43) ≡ false = grind (arith, nat_tests, digit) in rw other refl

-- a number is read where it is within 32 bits
pub is_read : (most n : ℕ) (word : List ℕ) → most < 4294967296 → IsNumber most n word
    → IsNumeral 10 (without_leading_plus word) × (digits_value 10 (without_leading_plus word) < 4294967296)
is_read most n word small is = rw (no_plus word is.digits) ((is.some, numerals.to word is.digits), omega (arith, is.value, is.high))
