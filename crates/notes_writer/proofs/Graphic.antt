-- Numbers as they stand in lines: of graphic bytes, and each of one number.
use Rattle.std.proofs.Common.{◌≡◌, ℕ, ◌<◌, ◌^◌, ℤ, pos, negsuc, true, List, [], ◌∷◌, ◌++◌, refl, sym, ◌∙◌, append_assoc, arith}
use Rattle.std.specs.Prelude.{◌≤ℤ◌, decimal}
use Rattle.std.specs.Char.{is_ascii_digit}
use Rattle.std.specs.Fmt.{signed_decimal}
use Rattle.std.specs.Int.Signed.{mag}
use Rattle.std.specs.List.{list_all}
use Rattle.std.proofs.lemmas.Bool.{and_from, and_parts}
use Rattle.std.proofs.lemmas.Bool.Decides.{nat_tests}
use Rattle.std.proofs.lemmas.Fmt.{decimal_injective, digits_decimal}
use Rattle.std.proofs.lemmas.List.Folds.{list_all-append}
use Rattle.rhythm_base.proofs.Numerals.{numerals}
use Rattle.notes_writer.specs.Line.{record_signature}
use Rattle.notes_writer.proofs.WordsApart.{is_graphic, pieces_apart}

digits_graphic : (ds : List ℕ) → list_all is_ascii_digit ds ≡ true → list_all is_graphic ds ≡ true
digits_graphic [] h = refl
digits_graphic (d ∷ ds) h =
    let parts = and_parts (is_ascii_digit d) (list_all is_ascii_digit ds) h in
    let digit : is_ascii_digit d ≡ true = parts.0 in
    let graphic : is_graphic d ≡ true = grind (arith, nat_tests) in
    and_from (is_graphic d) (list_all is_graphic ds) graphic (digits_graphic ds parts.1)

digits_are : (n : ℕ) → n < 2 ^ 64 → list_all is_ascii_digit (decimal n) ≡ true
digits_are n h = digits_decimal numerals n h

pub number_graphic : (n : ℕ) → n < 2 ^ 64 → list_all is_graphic (decimal n) ≡ true
number_graphic n h = digits_graphic (decimal n) (digits_are n h)

pub signature_graphic : (num den : ℕ) → num < 2 ^ 64 → den < 2 ^ 64 → list_all is_graphic (record_signature num den) ≡ true
signature_graphic num den h k =
    let front : list_all is_graphic (decimal num ++ (47 ∷ [])) ≡ true =
    list_all-append is_graphic (decimal num) (47 ∷ []) ∙ and_from (list_all is_graphic (decimal num)) true (number_graphic num h) refl in
    list_all-append is_graphic (decimal num ++ (47 ∷ [])) (decimal den)
    ∙ and_from (list_all is_graphic (decimal num ++ (47 ∷ []))) (list_all is_graphic (decimal den)) front (number_graphic den k)

pub sharps_graphic : (sf : ℤ) → mag sf < 2 ^ 63 → list_all is_graphic (signed_decimal sf) ≡ true
sharps_graphic (pos n) h = number_graphic n (omega (arith, h))
sharps_graphic (negsuc n) h = number_graphic _ (omega (arith, h))

pub signature_one : (num den some other : ℕ) → num < 2 ^ 64 → den < 2 ^ 64 → some < 2 ^ 64 → other < 2 ^ 64
    → record_signature num den ≡ record_signature some other → (num ≡ some) × (den ≡ other)
signature_one num den some other a b c d e =
    let split = pieces_apart is_ascii_digit (decimal num) (decimal some) 47 47 (decimal den) (decimal other)
    (digits_are num a) (digits_are some c) refl refl
    (sym (append_assoc (decimal num) (47 ∷ []) (decimal den)) ∙ e ∙ append_assoc (decimal some) (47 ∷ []) (decimal other)) in
    let parts : 47 ∷ decimal den ≡ 47 ∷ decimal other = split.1 in
    let later : decimal den ≡ decimal other = cc in
    (decimal_injective num some a c split.0, decimal_injective den other b d later)

-- seven sharps or flats at most
pub few_sharps : (sf : ℤ) → negsuc 6 ≤ℤ sf → sf ≤ℤ pos 7 → mag sf < 2 ^ 63
few_sharps (pos n) low high = grind (arith, nat_tests)
few_sharps (negsuc n) low high = grind (arith, nat_tests)
