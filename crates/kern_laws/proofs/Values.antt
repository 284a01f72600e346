-- The text of each value is read as the value.
use Rattle.std.proofs.Common.{◌≡◌, ℕ, zero, suc, ◌^◌, ◌<◌, ◌≤◌, ◌==◌, true, false, List, [], ◌∷◌, ◌++◌, take, drop, length, get_or, replicate, Some, None, refl, ap, ◌∙◌, arith}
use Rattle.std.specs.Prelude.{codes, decimal, if◌then◌else◌}
use Rattle.std.specs.Char.{is_ascii_digit}
use Rattle.std.specs.List.{list_all, prefix_len}
use Rattle.std.specs.Option.{option_map}
use Rattle.std.specs.Str.{bytes_eq}
use Rattle.std.proofs.lemmas.Bool.{and_parts, le-leb}
use Rattle.std.proofs.lemmas.Bool.Decides.{nat_tests}
use Rattle.std.proofs.lemmas.Fmt.{decimal_nonempty, digits_decimal, digits_value-decimal, first_decimal}
use Rattle.rhythm_base.proofs.Numerals.{numerals}
use Rattle.durations.specs.declared.value.Recip.{Recip}
use Rattle.durations.specs.declared.value.Recip.TheVariants.{Of, Breve, Long}
use Rattle.durations.specs.Value.{plain_grid}
use Rattle.kern_writer.specs.Tokens.{recip_text}
use Rattle.text_words.specs.Marks.{are_dots}
use Rattle.kern_reader.specs.Tokens.{digits_part, dots_part, recip_of, value_of}
use Rattle.text_words.specs.Numbers.{number_of}
use Rattle.kern_laws.specs.Laws.{ValuesReadBack}
use Rattle.rhythm_base.proofs.ListParts.{front as taken, back as dropped}
use Rattle.text_words.proofs.TextNumbers.{digits_plain}

abbrev dotted : ℕ → List ℕ
dotted d = replicate d 46

-- the digits end where the dots begin
digits_end : (xs ys : List ℕ) → list_all is_ascii_digit xs ≡ true → prefix_len is_ascii_digit ys ≡ 0 → prefix_len is_ascii_digit (xs ++ ys) ≡ length xs
digits_end [] ys all none = none
digits_end (x ∷ xs) ys all none =
    let parts = and_parts (is_ascii_digit x) (list_all is_ascii_digit xs) all in
    let rest = digits_end xs ys parts.1 none in
    rw (parts.0, rest) (omega arith)

no_digit : (d : ℕ) → prefix_len is_ascii_digit (dotted d) ≡ 0
no_digit zero = refl
no_digit (suc d) = refl

some_dots : (d : ℕ) → d ≤ 2 → (are_dots (dotted d) ≡ true) × (length (dotted d) ≡ d)
some_dots zero two = (refl, refl)
some_dots (suc zero) two = (refl, refl)
some_dots (suc (suc zero)) two = (refl, refl)
some_dots (suc (suc (suc d))) two = absurd (omega (arith, two))

split_value : (text : List ℕ) (d : ℕ) (recip : Recip) → list_all is_ascii_digit text ≡ true → d ≤ 2 → recip_of text ≡ Some recip
    → value_of (text ++ dotted d) ≡ Some (record { recip = recip; dots = d })
unfolding value_of
split_value text d recip all two is =
    let end = digits_end text (dotted d) all (no_digit d) in
    let front : digits_part (text ++ dotted d) ≡ text = ap (λ n. take n (text ++ dotted d)) end ∙ taken text (dotted d) in
    let back : dots_part (text ++ dotted d) ≡ dotted d = ap (λ n. drop n (text ++ dotted d)) end ∙ dropped text (dotted d) in
    let (dots, count) = some_dots d two in
    ap (λ xs. if are_dots xs then option_map (λ r. record { recip = r; dots = length xs }) (recip_of (digits_part (text ++ dotted d))) else None) back
    ∙ ap (λ xs. if are_dots (dotted d) then option_map (λ r. record { recip = r; dots = length (dotted d) }) (recip_of xs) else None) front
    ∙ rw (dots, is, count) refl

no_zero : (ds : List ℕ) → 48 < get_or ds 0 0 → (bytes_eq ds (codes "0") ≡ false) × (bytes_eq ds (codes "00") ≡ false)
no_zero [] first = absurd (omega (arith, first))
no_zero (d ∷ ds) first = let no : (d == 48) ≡ false = grind (arith, nat_tests) in (rw no refl, rw no refl)

number_read : (n : ℕ) → 1 ≤ n → n ≤ 61440 → recip_of (decimal n) ≡ Some (Of n)
unfolding recip_of number_of
number_read n some few =
    let small : n < 2 ^ 64 = omega (arith, few) in
    let all = digits_decimal numerals n small in
    let first = first_decimal n some small in
    let plain = digits_plain (decimal n) all (decimal_nonempty n small) first in
    let (zero_no, zeros_no) = no_zero (decimal n) first in
    let value = digits_value-decimal numerals n small in
    rw (zero_no, zeros_no, plain, value, le-leb n 61440 few) refl

breve : recip_of (codes "0") ≡ Some Breve
unfolding recip_of
breve = refl

long : recip_of (codes "00") ≡ Some Long
unfolding recip_of
long = refl

value_back : (recip : Recip) (d : ℕ) → 1 ≤ plain_grid recip → plain_grid recip ≤ 61440 → d ≤ 2 → value_of (recip_text recip ++ dotted d) ≡ Some (record { recip = recip; dots = d })
value_back (Of n) d some few two = split_value (decimal n) d (Of n) (digits_decimal numerals n (omega (arith, few))) two (number_read n some few)
value_back Breve d some few two = split_value (codes "0") d Breve refl two breve
value_back Long d some few two = split_value (codes "00") d Long refl two long

pub values : ValuesReadBack
values v well = value_back v.recip v.dots well.some well.few well.dots
