-- The text of a value with its marks is read as how long the value is, and its marks.
use Rattle.std.proofs.Common.{◌≡◌, ℕ, zero, suc, ◌-◌, ◌*◌, ◌/◌, ◌^◌, ◌≤◌, ◌==◌, Bool, true, false, ◌||◌, List, [], ◌∷◌, ◌++◌, replicate, Some, refl, ap, ◌∙◌, arith, append_assoc}
use Rattle.std.specs.Prelude.{codes, decimal, if◌then◌else◌}
use Rattle.std.specs.Char.{is_ascii_digit}
use Rattle.std.specs.Fmt.{digits}
use Rattle.std.specs.List.{list_all, prefix_len}
use Rattle.std.proofs.lemmas.Bool.{false≢true, or_left}
use Rattle.std.proofs.lemmas.Bool.Decides.{nat_tests}
use Rattle.std.proofs.lemmas.Nat.{pow_pos}
use Rattle.rhythm_base.specs.declared.span.Frac.{Frac}
use Rattle.durations.specs.declared.value.Recip.{Recip}
use Rattle.durations.specs.declared.value.Recip.TheVariants.{Of, Breve, Long}
use Rattle.durations.specs.declared.value.Value.{Value}
use Rattle.durations.specs.Value.{parts, plain_grid, plain_parts, value_grid}
use Rattle.text_words.specs.Values.{IsWellValue}
use Rattle.text_words.specs.Divisors.{gcd}
use Rattle.text_words.proofs.TextRuns.{run_dropped, run_taken}
use Rattle.text_words.proofs.TextTests.{all_alike, all_append, all_weaker, decimal_digits, is_graphic}
use Rattle.lily_writer.specs.Elements.{lily_short, lily_tie}
use Rattle.lily_writer.specs.Fractions.{frac, frac_times}
use Rattle.lily_writer.specs.Values.{base_text, scale_of_part, scale_text, lily_value, written_part}
use Rattle.lily_writer.specs.Words.{WordEnding, base_of, after_front, dotted, word_ending, front, is_base_byte, is_dot, is_scale_byte, word_marks, scale_of}
use Rattle.lily_laws.proofs.Fractions.{same_value, times_parts}
use Rattle.lily_laws.proofs.WrittenParts.{base_read, part_by, part_is, part_range, scale_read}
use Rattle.durations.proofs.Wide.{some_product}

abbrev pub marks : Bool → Bool → List ℕ
marks short tied = lily_short short ++ lily_tie tied

marks_read : (short tied : Bool) → word_marks (marks short tied) ≡ Some (short, tied)
marks_read true true = refl
marks_read true false = refl
marks_read false true = refl
marks_read false false = refl

-- ---- the parts of the text, each of its own bytes

pub digit_is_base : (b : ℕ) → is_ascii_digit b ≡ true → is_base_byte b ≡ true
digit_is_base b h = or_left (is_ascii_digit b) _ h

pub digit_is_scale : (b : ℕ) → is_ascii_digit b ≡ true → is_scale_byte b ≡ true
digit_is_scale b h = or_left (is_ascii_digit b) _ h

base_bytes : (r : Recip) → list_all is_base_byte (base_text r) ≡ true
base_bytes (Of n) = all_weaker is_ascii_digit is_base_byte (decimal (written_part n)) digit_is_base (decimal_digits (written_part n))
base_bytes Breve = refl
base_bytes Long = refl

-- the scale is nothing, or an asterisk and more
by_scale : (P : List ℕ → Type 0) (p n : ℕ) → P [] → P (42 ∷ (decimal (p / gcd p n) ++ (47 ∷ []) ++ decimal (n / gcd p n)))
    → P (scale_of_part p n)
by_scale P p n none some = go (p == n)
  where
    go : (b : Bool) → P (if b then [] else codes "*" ++ decimal (p / gcd p n) ++ codes "/" ++ decimal (n / gcd p n))
    go true = none
    go false = some

pub number_bytes : (n : ℕ) → list_all is_scale_byte (decimal n) ≡ true
number_bytes n = all_weaker is_ascii_digit is_scale_byte (decimal n) digit_is_scale (decimal_digits n)

scale_bytes : (r : Recip) → list_all is_scale_byte (scale_text r) ≡ true
scale_bytes (Of n) =
    let p = written_part n in
    let first = decimal (p / gcd p n) in
    by_scale (λ text. list_all is_scale_byte text ≡ true) p n refl
    (all_append is_scale_byte (first ++ 47 ∷ []) (decimal (n / gcd p n))
    (all_append is_scale_byte first (47 ∷ []) (number_bytes (p / gcd p n)) refl) (number_bytes (n / gcd p n)))
scale_bytes Breve = refl
scale_bytes Long = refl

marks_no_scale : (short tied : Bool) → prefix_len is_scale_byte (marks short tied) ≡ 0
marks_no_scale true true = refl
marks_no_scale true false = refl
marks_no_scale false true = refl
marks_no_scale false false = refl

-- neither the scale nor the marks begin with a byte of these kinds
not_begun : (kind : ℕ → Bool) → kind 42 ≡ false → kind 45 ≡ false → kind 126 ≡ false → (r : Recip) (short tied : Bool)
    → prefix_len kind (scale_text r ++ marks short tied) ≡ 0
not_begun kind star dash tie r short tied = of_scale r
  where
    of_marks : (short tied : Bool) → prefix_len kind (marks short tied) ≡ 0
    of_marks true tied = rw dash refl
    of_marks false true = rw tie refl
    of_marks false false = refl

    of_scale : (r : Recip) → prefix_len kind (scale_text r ++ marks short tied) ≡ 0
    of_scale (Of n) = by_scale (λ text. prefix_len kind (text ++ marks short tied) ≡ 0) (written_part n) n (of_marks short tied)
        (rw star refl)
    of_scale Breve = of_marks short tied
    of_scale Long = of_marks short tied

no_base : (d : ℕ) (r : Recip) (short tied : Bool) → prefix_len is_base_byte (replicate d 46 ++ (scale_text r ++ marks short tied)) ≡ 0
no_base zero r short tied = not_begun is_base_byte refl refl refl r short tied
no_base (suc d) r short tied = refl

-- ---- each part is read

pub dots_read : (d : ℕ) → d ≤ 2 → dotted (replicate d 46) ≡ Some (frac (2 * 2 ^ d - 1) (2 ^ d))
dots_read zero two = refl
dots_read (suc zero) two = refl
dots_read (suc (suc zero)) two = refl
dots_read (suc (suc (suc d))) two = absurd (omega (arith, two))

-- what the base of a value and its scale say
abbrev base_frac : Recip → Frac
base_frac (Of n) = frac 1 (written_part n)
base_frac Breve = frac 2 1
base_frac Long = frac 4 1

abbrev scale_frac : Recip → Frac
scale_frac (Of n) = frac (written_part n) n
scale_frac Breve = frac 1 1
scale_frac Long = frac 1 1

breve_read : base_of (codes "\\breve") ≡ Some (frac 2 1)
unfolding base_of
breve_read = refl

longa_read : base_of (codes "\\longa") ≡ Some (frac 4 1)
unfolding base_of
longa_read = refl

pub no_scale : scale_of [] ≡ Some (frac 1 1)
unfolding scale_of
no_scale = refl

base_is : (r : Recip) → 1 ≤ plain_grid r → base_of (base_text r) ≡ Some (base_frac r)
base_is (Of n) some = base_read (written_part n) (part_is n some).0
base_is Breve some = breve_read
base_is Long some = longa_read

scale_is : (r : Recip) → 1 ≤ plain_grid r → plain_grid r ≤ 61440 → scale_of (scale_text r) ≡ Some (scale_frac r)
scale_is (Of n) some few =
    let range = part_range (written_part n) (part_is n some).0 in
    scale_read (written_part n) n range.0 range.1 some few
scale_is Breve some few = no_scale
scale_is Long some few = no_scale

-- ---- and all of them are as long as the value

grown : (r : Recip) (k e : ℕ) → 1 ≤ plain_grid r → 1 ≤ e → frac_times (frac_times (base_frac r) (frac k e)) (scale_frac r)
    ≡ frac (plain_parts r * k) (plain_grid r * e)
grown (Of n) k e some other =
    let range = part_range (written_part n) (part_is n some).0 in
    let p = written_part n in
    let whole = some_product p e range.0 other in
    ap (λ f. frac_times f (frac p n)) (times_parts 1 p k e range.0 other) ∙ times_parts (1 * k) (p * e) p n whole some
    ∙ same_value (1 * k * p) (p * e * n) (1 * k) (n * e) (some_product (p * e) n whole some) (some_product n e some other) (ring k p n e)
  where
    ring : (k p n e : ℕ) → 1 * k * p * (n * e) ≡ 1 * k * (p * e * n)
    ring k p n e = grind arith
grown Breve k e some other =
    ap (λ f. frac_times f (frac 1 1)) (times_parts 2 1 k e (omega arith) other)
    ∙ times_parts (2 * k) (1 * e) 1 1 (omega (arith, other)) (omega arith)
    ∙ same_value (2 * k * 1) (1 * e * 1) (2 * k) (1 * e) (omega (arith, other)) (omega (arith, other)) (ring (2 * k) (1 * e))
  where
    ring : (a b : ℕ) → a * 1 * b ≡ a * (b * 1)
    ring a b = grind arith
grown Long k e some other =
    ap (λ f. frac_times f (frac 1 1)) (times_parts 4 1 k e (omega arith) other)
    ∙ times_parts (4 * k) (1 * e) 1 1 (omega (arith, other)) (omega arith)
    ∙ same_value (4 * k * 1) (1 * e * 1) (4 * k) (1 * e) (omega (arith, other)) (omega (arith, other)) (ring (4 * k) (1 * e))
  where
    ring : (a b : ℕ) → a * 1 * b ≡ a * (b * 1)
    ring a b = grind arith

-- ---- the text

abbrev pub ending_text : Value → Bool → Bool → List ℕ
ending_text v short tied = lily_value v ++ marks short tied

abbrev pub ending : Value → Bool → Bool → WordEnding
ending v short tied = record { len = frac (parts v) (value_grid v); short = short; tied = tied }

apart : (base dots scale rest : List ℕ) (b d s : Frac) (short tied : Bool) → list_all is_base_byte base ≡ true
    → list_all is_dot dots ≡ true → list_all is_scale_byte scale ≡ true
    → prefix_len is_base_byte (dots ++ (scale ++ rest)) ≡ 0 → prefix_len is_dot (scale ++ rest) ≡ 0 → prefix_len is_scale_byte rest ≡ 0
    → base_of base ≡ Some b → dotted dots ≡ Some d → scale_of scale ≡ Some s → word_marks rest ≡ Some (short, tied)
    → word_ending (base ++ (dots ++ (scale ++ rest))) ≡ Some (record { len = frac_times (frac_times b d) s; short = short; tied = tied })
unfolding word_ending
apart base dots scale rest b d s short tied h k l base_ends dots_end scale_ends first second third fourth =
    let base_front : front is_base_byte (base ++ (dots ++ (scale ++ rest))) ≡ base =
    run_taken is_base_byte base (dots ++ (scale ++ rest)) h base_ends in
    let after_base_is : after_front is_base_byte (base ++ (dots ++ (scale ++ rest))) ≡ dots ++ (scale ++ rest) =
    run_dropped is_base_byte base (dots ++ (scale ++ rest)) h base_ends in
    let dots_front : front is_dot (dots ++ (scale ++ rest)) ≡ dots = run_taken is_dot dots (scale ++ rest) k dots_end in
    let after_dots_is : after_front is_dot (dots ++ (scale ++ rest)) ≡ scale ++ rest = run_dropped is_dot dots (scale ++ rest) k dots_end in
    let scale_front : front is_scale_byte (scale ++ rest) ≡ scale = run_taken is_scale_byte scale rest l scale_ends in
    let after_scale_is : after_front is_scale_byte (scale ++ rest) ≡ rest = run_dropped is_scale_byte scale rest l scale_ends in
    rw (base_front, first, after_base_is, dots_front, second, after_dots_is, scale_front, third, after_scale_is, fourth) refl

pub ending_read : (v : Value) (short tied : Bool) → IsWellValue v → word_ending (ending_text v short tied) ≡ Some (ending v short tied)
ending_read v short tied well =
    let dots = replicate v.dots 46 in
    let scale = scale_text v.recip in
    let text : ending_text v short tied ≡ base_text v.recip ++ (dots ++ (scale ++ marks short tied)) =
    append_assoc (base_text v.recip ++ dots) scale (marks short tied) ∙ append_assoc (base_text v.recip) dots (scale ++ marks short tied) in
    let long = grown v.recip (2 * 2 ^ v.dots - 1) (2 ^ v.dots) well.some (pow_pos v.dots) in
    ap word_ending text
    ∙ apart (base_text v.recip) dots scale (marks short tied) (base_frac v.recip) (frac (2 * 2 ^ v.dots - 1) (2 ^ v.dots))
    (scale_frac v.recip) short tied (base_bytes v.recip)
    (all_alike is_dot v.dots 46 refl) (scale_bytes v.recip) (no_base v.dots v.recip short tied)
    (not_begun is_dot refl refl refl v.recip short tied) (marks_no_scale short tied)
    (base_is v.recip well.some) (dots_read v.dots well.dots) (scale_is v.recip well.some well.few) (marks_read short tied)
    ∙ ap (λ len. Some (record { len = len; short = short; tied = tied })) long

-- ---- its bytes are printed, and the first is a digit or begins a word

pub base_byte_graphic : (b : ℕ) → is_base_byte b ≡ true → is_graphic b ≡ true
base_byte_graphic b h = grind (arith, nat_tests)

pub scale_byte_graphic : (b : ℕ) → is_scale_byte b ≡ true → is_graphic b ≡ true
scale_byte_graphic b h = grind (arith, nat_tests)

marks_graphic : (short tied : Bool) → list_all is_graphic (marks short tied) ≡ true
marks_graphic true true = refl
marks_graphic true false = refl
marks_graphic false true = refl
marks_graphic false false = refl

pub ending_graphic : (v : Value) (short tied : Bool) → list_all is_graphic (ending_text v short tied) ≡ true
ending_graphic v short tied =
    let base = base_text v.recip in
    let dots = replicate v.dots 46 in
    let scale = scale_text v.recip in
    all_append is_graphic (base ++ dots ++ scale) (marks short tied)
    (all_append is_graphic (base ++ dots) scale
    (all_append is_graphic base dots (all_weaker is_base_byte is_graphic base base_byte_graphic (base_bytes v.recip))
    (all_alike is_graphic v.dots 46 refl))
    (all_weaker is_scale_byte is_graphic scale scale_byte_graphic (scale_bytes v.recip))) (marks_graphic short tied)

abbrev pub begins_value : List ℕ → Bool
begins_value [] = false
begins_value (b ∷ bs) = is_ascii_digit b || (b == 92)

pub begins_more : (xs ys : List ℕ) → begins_value xs ≡ true → begins_value (xs ++ ys) ≡ true
begins_more [] ys h = absurd (false≢true h)
begins_more (x ∷ xs) ys h = h

base_begins : (r : Recip) → 1 ≤ plain_grid r → begins_value (base_text r) ≡ true
unfolding digits
base_begins (Of n) some = part_by (λ p. begins_value (decimal p) ≡ true) refl refl refl refl refl refl refl (written_part n)
    (part_is n some).0
base_begins Breve some = refl
base_begins Long some = refl

pub ending_begins : (v : Value) (short tied : Bool) → IsWellValue v → begins_value (ending_text v short tied) ≡ true
ending_begins v short tied well =
    let base = base_text v.recip in
    let dots = replicate v.dots 46 in
    let scale = scale_text v.recip in
    begins_more (base ++ dots ++ scale) (marks short tied) (begins_more (base ++ dots) scale
    (begins_more base dots (base_begins v.recip well.some)))
