-- The bytes of values.
use Rattle.std.proofs.Common.{◌≡◌, ℕ, ◌<◌, ◌≤◌, ◌==◌, true, List, [], ◌∷◌, ◌++◌, length, refl, arith}
use Rattle.std.specs.Prelude.{decimal, replicate}
use Rattle.std.specs.Char.{is_ascii_digit}
use Rattle.std.specs.List.{list_all}
use Rattle.std.proofs.lemmas.Bool.{and_parts, or_left}
use Rattle.std.proofs.lemmas.Bool.Decides.{nat_tests}
use Rattle.std.proofs.lemmas.Fmt.{decimal_nonempty}
use Rattle.durations.specs.declared.value.Recip.{Recip}
use Rattle.durations.specs.declared.value.Recip.TheVariants.{Of, Breve, Long}
use Rattle.durations.specs.declared.value.Value.{Value}
use Rattle.durations.specs.Value.{plain_grid}
use Rattle.kern_writer.specs.Tokens.{recip_text, value_text}
use Rattle.kern_reader.specs.Lines.{digit_first}
use Rattle.text_words.specs.Values.{IsWellValue}
use Rattle.kern_reader.specs.Tokens.{is_value_byte}
use Rattle.text_words.proofs.TextTests.{all_alike, all_append, all_weaker, decimal_digits, is_graphic}

digit_of_value : (b : ℕ) → is_ascii_digit b ≡ true → is_value_byte b ≡ true
digit_of_value b h = or_left (is_ascii_digit b) (b == 46) h

recip_bytes : (recip : Recip) → list_all is_value_byte (recip_text recip) ≡ true
recip_bytes (Of n) = all_weaker is_ascii_digit is_value_byte (decimal n) digit_of_value (decimal_digits n)
recip_bytes Breve = refl
recip_bytes Long = refl

pub value_bytes : (v : Value) → list_all is_value_byte (value_text v) ≡ true
value_bytes v = all_append is_value_byte (recip_text v.recip) (replicate v.dots 46) (recip_bytes v.recip) (all_alike is_value_byte v.dots 46 refl)

value_byte_graphic : (b : ℕ) → is_value_byte b ≡ true → is_graphic b ≡ true
value_byte_graphic b h = grind (arith, nat_tests)

pub value_graphic : (v : Value) → list_all is_graphic (value_text v) ≡ true
value_graphic v = all_weaker is_value_byte is_graphic (value_text v) value_byte_graphic (value_bytes v)

-- ---- a value begins with a digit

pub digits_begin : (ds more : List ℕ) → 0 < length ds → list_all is_ascii_digit ds ≡ true → digit_first (ds ++ more) ≡ true
digits_begin [] more some all = absurd (omega (arith, some))
digits_begin (d ∷ ds) more some all = (and_parts (is_ascii_digit d) (list_all is_ascii_digit ds) all).0

pub decimal_begins : (n : ℕ) (more : List ℕ) → n ≤ 61440 → digit_first (decimal n ++ more) ≡ true
decimal_begins n more few = digits_begin (decimal n) more (decimal_nonempty n (omega (arith, few))) (decimal_digits n)

recip_begins : (recip : Recip) (more : List ℕ) → plain_grid recip ≤ 61440 → digit_first (recip_text recip ++ more) ≡ true
recip_begins (Of n) more few = decimal_begins n more few
recip_begins Breve more few = refl
recip_begins Long more few = refl

pub value_begins : (v : Value) → IsWellValue v → digit_first (value_text v) ≡ true
value_begins v well = recip_begins v.recip (replicate v.dots 46) well.few
