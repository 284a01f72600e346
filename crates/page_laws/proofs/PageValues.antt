-- The text of a value with its marks is read as how long the value is, and its marks.
use Rattle.std.proofs.Common.{◌≡◌, ℕ, zero, suc, ◌-◌, ◌*◌, ◌/◌, ◌^◌, ◌<◌, ◌≤◌, ◌==◌, Bool, true, false, ◌&&◌, List, [], ◌∷◌, ◌++◌, replicate, Option, Some, None, refl, sym, ap, ◌∙◌, subst, arith, append_assoc}
use Rattle.std.specs.Prelude.{codes, decimal, if◌then◌else◌, min, nat_le}
use Rattle.std.specs.Char.{is_ascii_digit}
use Rattle.std.specs.Fmt.{digits}
use Rattle.std.specs.List.{list_all, prefix_len}
use Rattle.std.proofs.lemmas.Bool.{and_parts, false≢true, or_left}
use Rattle.std.proofs.lemmas.Bool.Decides.{nat_tests}
use Rattle.std.proofs.lemmas.Nat.{pow_pos}
use Rattle.rhythm_base.specs.declared.span.Frac.{Frac}
use Rattle.rhythm_base.proofs.NumbersBelow.{all_below, one_below}
use Rattle.durations.specs.declared.value.Recip.{Recip}
use Rattle.durations.specs.declared.value.Recip.TheVariants.{Of, Breve, Long}
use Rattle.durations.specs.declared.value.Value.{Value}
use Rattle.durations.specs.Value.{parts, plain_grid, plain_parts, value_grid}
use Rattle.durations.proofs.Wide.{some_product}
use Rattle.text_words.specs.Divisors.{gcd}
use Rattle.text_words.specs.Numbers.{number_of}
use Rattle.text_words.proofs.TextRuns.{run_dropped, run_taken}
use Rattle.text_words.proofs.TextTests.{all_alike, all_append, all_weaker, decimal_digits, is_graphic}
use Rattle.lily_writer.specs.Fractions.{frac, frac_times, same_frac}
use Rattle.lily_writer.specs.Words.{WordEnding, after_front, dotted, front, is_base_byte, is_dot, is_scale_byte, scale_of, word_marks}
use Rattle.lily_laws.proofs.Fractions.{same_value, times_parts}
use Rattle.lily_laws.proofs.ValueTexts.{base_byte_graphic, begins_more, begins_value, digit_is_base, dots_read, no_scale, number_bytes, scale_byte_graphic}
use Rattle.page_writer.specs.Groups.{short_text, tie_text}
use Rattle.page_writer.specs.Values.{base_text, page_value, scale_text}
use Rattle.notation_laws.specs.Written.{IsHalvedPart, IsWrittenValue}
use Rattle.page_laws.specs.Words.{page_base, page_ending}

-- ---- 1/n of a whole note, where n is 2 to some power

abbrev low_part : ℕ → ℕ
low_part n = min n 1024

abbrev pub is_same : Option Frac → Frac → Bool
is_same None f = false
is_same (Some g) f = same_frac g f

is_frac : (o : Option Frac) (f : Frac) → is_same o f ≡ true → o ≡ Some f
is_frac None f h = absurd (false≢true h)
is_frac (Some g) f h =
    let (num, den) = and_parts (g.num == f.num) (g.den == f.den) h in
    let one : g.num ≡ f.num = grind (arith, nat_tests, num) in
    let two : g.den ≡ f.den = grind (arith, nat_tests, den) in
    λ i. Some (record { num = one i; den = two i })

abbrev is_read_part : ℕ → Bool
is_read_part k =
    (is_same (page_base (base_text (Of (2 ^ k)))) (frac 1 (low_part (2 ^ k)))
    && is_same (scale_of (scale_text (Of (2 ^ k)))) (frac 1 (2 ^ k / low_part (2 ^ k))))
    && (begins_value (base_text (Of (2 ^ k))) && (low_part (2 ^ k) * (2 ^ k / low_part (2 ^ k)) == 2 ^ k))

all_parts : all_below is_read_part 16 ≡ true
unfolding page_base number_of scale_of gcd digits lib.Count.ones
all_parts = refl

record IsReadPart (n : ℕ) : Type 0 where
  base : page_base (base_text (Of n)) ≡ Some (frac 1 (low_part n))
  scale : scale_of (scale_text (Of n)) ≡ Some (frac 1 (n / low_part n))
  begins : begins_value (base_text (Of n)) ≡ true
  whole : low_part n * (n / low_part n) ≡ n

read_part : (k : ℕ) → k < 16 → IsReadPart (2 ^ k)
read_part k few =
    let n = 2 ^ k in
    let q = n / low_part n in
    let (text, rest) = and_parts _ _ (one_below is_read_part 16 k all_parts few) in
    let (base, scale) = and_parts (is_same (page_base (base_text (Of n))) (frac 1 (low_part n))) _ text in
    let (begins, whole) = and_parts (begins_value (base_text (Of n))) (low_part n * q == n) rest in
    record {
      base = is_frac (page_base (base_text (Of n))) (frac 1 (low_part n)) base;
      scale = is_frac (scale_of (scale_text (Of n))) (frac 1 q) scale;
      begins = begins;
      whole = grind (arith, nat_tests, whole);
    }

-- ---- what the base of a value and its scale say

abbrev base_frac : Recip → Frac
base_frac (Of n) = frac 1 (low_part n)
base_frac Breve = frac 2 1
base_frac Long = frac 4 1

abbrev scale_frac : Recip → Frac
scale_frac (Of n) = frac 1 (n / low_part n)
scale_frac Breve = frac 1 1
scale_frac Long = frac 1 1

-- what is known of the text of a part
record IsRecipText (r : Recip) : Type 0 where
  base : page_base (base_text r) ≡ Some (base_frac r)
  scale : scale_of (scale_text r) ≡ Some (scale_frac r)
  begins : begins_value (base_text r) ≡ true
  base_bytes : list_all is_base_byte (base_text r) ≡ true
  scale_bytes : list_all is_scale_byte (scale_text r) ≡ true
  grid : 1 ≤ plain_grid r
  grown : (k e : ℕ) → 1 ≤ e → frac_times (frac_times (base_frac r) (frac k e)) (scale_frac r) ≡ frac (plain_parts r * k) (plain_grid r * e)

scale_text_bytes : (n : ℕ) → list_all is_scale_byte (scale_text (Of n)) ≡ true
scale_text_bytes n = go (nat_le n 1024)
  where
    go : (b : Bool) → list_all is_scale_byte (if b then [] else codes "*1/" ++ decimal (n / 1024)) ≡ true
    go true = refl
    go false = all_append is_scale_byte (codes "*1/") (decimal (n / 1024)) refl (number_bytes (n / 1024))

part_text : (n k : ℕ) → k < 16 → n ≡ 2 ^ k → IsRecipText (Of n)
part_text n k few is = record {
  base = read.base;
  scale = read.scale;
  begins = read.begins;
  base_bytes = all_weaker is_ascii_digit is_base_byte (decimal (low_part n)) digit_is_base (decimal_digits (low_part n));
  scale_bytes = scale_text_bytes n;
  grid = some;
  grown = grown;
}
  where
    read : IsReadPart n
    read = subst IsReadPart (sym is) (read_part k few)

    some : 1 ≤ n
    some = subst (λ m. 1 ≤ m) (sym is) (pow_pos k)

    m : ℕ
    m = low_part n

    q : ℕ
    q = n / low_part n

    factor : (a b : ℕ) → a * b ≡ n → 1 ≤ a
    factor zero b e = let none : zero * b ≡ 0 = omega arith in omega (arith, e, none, some)
    factor (suc a) b e = omega arith

    turned : (a b : ℕ) → a * b ≡ b * a
    turned a b = grind arith

    grown : (k e : ℕ) → 1 ≤ e → frac_times (frac_times (frac 1 m) (frac k e)) (frac 1 q) ≡ frac (1 * k) (n * e)
    grown k e other =
        let base : 1 ≤ m = factor m q read.whole in
        let scale : 1 ≤ q = factor q m (turned q m ∙ read.whole) in
        let whole = some_product m e base other in
        ap (λ f. frac_times f (frac 1 q)) (times_parts 1 m k e base other) ∙ times_parts (1 * k) (m * e) 1 q whole scale
        ∙ same_value (1 * k * 1) (m * e * q) (1 * k) (n * e) (some_product (m * e) q whole scale) (some_product n e some other)
        (ring k m e q n read.whole)
      where
        ring : (k m e q n : ℕ) → m * q ≡ n → 1 * k * 1 * (n * e) ≡ 1 * k * (m * e * q)
        ring k m e q n is = let plain : 1 * k * 1 * (m * q * e)
            ≡ 1 * k * (m * e * q) = grind arith in subst (λ x. 1 * k * 1 * (x * e) ≡ 1 * k * (m * e * q)) is plain

breve_read : page_base (codes "\\breve") ≡ Some (frac 2 1)
unfolding page_base
breve_read = refl

longa_read : page_base (codes "\\longa") ≡ Some (frac 4 1)
unfolding page_base
longa_read = refl

whole_grown : (m k e : ℕ) → 1 ≤ e → frac_times (frac_times (frac m 1) (frac k e)) (frac 1 1) ≡ frac (m * k) (1 * e)
whole_grown m k e other =
    ap (λ f. frac_times f (frac 1 1)) (times_parts m 1 k e (omega arith) other)
    ∙ times_parts (m * k) (1 * e) 1 1 (omega (arith, other)) (omega arith)
    ∙ same_value (m * k * 1) (1 * e * 1) (m * k) (1 * e) (omega (arith, other)) (omega (arith, other)) (ring (m * k) (1 * e))
  where
    ring : (a b : ℕ) → a * 1 * b ≡ a * (b * 1)
    ring a b = grind arith

recip_text : (r : Recip) → IsHalvedPart r → IsRecipText r
recip_text (Of n) (k, few, is) = part_text n k few is
recip_text Breve is = record {
  base = breve_read;
  scale = no_scale;
  begins = refl;
  base_bytes = refl;
  scale_bytes = refl;
  grid = omega arith;
  grown = whole_grown 2;
}
recip_text Long is = record {
  base = longa_read;
  scale = no_scale;
  begins = refl;
  base_bytes = refl;
  scale_bytes = refl;
  grid = omega arith;
  grown = whole_grown 4;
}

-- ---- marks

abbrev pub marks : Bool → Bool → List ℕ
marks short tied = short_text short ++ tie_text tied

marks_read : (short tied : Bool) → word_marks (marks short tied) ≡ Some (short, tied)
marks_read true true = refl
marks_read true false = refl
marks_read false true = refl
marks_read false false = refl

marks_no_scale : (short tied : Bool) → prefix_len is_scale_byte (marks short tied) ≡ 0
marks_no_scale true true = refl
marks_no_scale true false = refl
marks_no_scale false true = refl
marks_no_scale false false = refl

-- neither the scale nor the marks begin with a byte of these kinds
not_begun : (kind : ℕ → Bool) → kind 42 ≡ false → kind 45 ≡ false → kind 126 ≡ false → (r : Recip) (short tied : Bool)
    → prefix_len kind (scale_text r ++ marks short tied) ≡ 0
not_begun kind star dash tie r short tied = of_scale r
  where
    of_marks : (short tied : Bool) → prefix_len kind (marks short tied) ≡ 0
    of_marks true tied = rw dash refl
    of_marks false true = rw tie refl
    of_marks false false = refl

    of_part : (n : ℕ) (b : Bool) → prefix_len kind ((if b then [] else codes "*1/" ++ decimal (n / 1024)) ++ marks short tied) ≡ 0
    of_part n true = of_marks short tied
    of_part n false = rw star refl

    of_scale : (r : Recip) → prefix_len kind (scale_text r ++ marks short tied) ≡ 0
    of_scale (Of n) = of_part n (nat_le n 1024)
    of_scale Breve = of_marks short tied
    of_scale Long = of_marks short tied

no_base : (d : ℕ) (r : Recip) (short tied : Bool) → prefix_len is_base_byte (replicate d 46 ++ (scale_text r ++ marks short tied)) ≡ 0
no_base zero r short tied = not_begun is_base_byte refl refl refl r short tied
no_base (suc d) r short tied = refl

-- ---- the text

abbrev pub ending_text : Value → Bool → Bool → List ℕ
ending_text v short tied = page_value v ++ marks short tied

abbrev pub value_frac : Value → Frac
value_frac v = frac (parts v) (value_grid v)

abbrev pub ending : Value → Bool → Bool → WordEnding
ending v short tied = record { len = value_frac v; short = short; tied = tied }

apart : (base dots scale rest : List ℕ) (b d s : Frac) (short tied : Bool) → list_all is_base_byte base ≡ true
    → list_all is_dot dots ≡ true → list_all is_scale_byte scale ≡ true
    → prefix_len is_base_byte (dots ++ (scale ++ rest)) ≡ 0 → prefix_len is_dot (scale ++ rest) ≡ 0 → prefix_len is_scale_byte rest ≡ 0
    → page_base base ≡ Some b → dotted dots ≡ Some d → scale_of scale ≡ Some s → word_marks rest ≡ Some (short, tied)
    → page_ending (base ++ (dots ++ (scale ++ rest))) ≡ Some (record { len = frac_times (frac_times b d) s; short = short; tied = tied })
unfolding page_ending
apart base dots scale rest b d s short tied h k l base_ends dots_end scale_ends first second third fourth =
    let base_front : front is_base_byte (base ++ (dots ++ (scale ++ rest))) ≡ base =
    run_taken is_base_byte base (dots ++ (scale ++ rest)) h base_ends in
    let after_base_is : after_front is_base_byte (base ++ (dots ++ (scale ++ rest))) ≡ dots ++ (scale ++ rest) =
    run_dropped is_base_byte base (dots ++ (scale ++ rest)) h base_ends in
    let dots_front : front is_dot (dots ++ (scale ++ rest)) ≡ dots = run_taken is_dot dots (scale ++ rest) k dots_end in
    let after_dots_is : after_front is_dot (dots ++ (scale ++ rest)) ≡ scale ++ rest = run_dropped is_dot dots (scale ++ rest) k dots_end in
    let scale_front : front is_scale_byte (scale ++ rest) ≡ scale = run_taken is_scale_byte scale rest l scale_ends in
    let after_scale_is : after_front is_scale_byte (scale ++ rest) ≡ rest = run_dropped is_scale_byte scale rest l scale_ends in
    rw (base_front, first, after_base_is, dots_front, second, after_dots_is, scale_front, third, after_scale_is, fourth) refl

pub ending_read : (v : Value) (short tied : Bool) → IsWrittenValue v → page_ending (ending_text v short tied) ≡ Some (ending v short tied)
ending_read v short tied well =
    let is = recip_text v.recip well.part in
    let dots = replicate v.dots 46 in
    let scale = scale_text v.recip in
    let text : ending_text v short tied ≡ base_text v.recip ++ (dots ++ (scale ++ marks short tied)) =
    append_assoc (base_text v.recip ++ dots) scale (marks short tied) ∙ append_assoc (base_text v.recip) dots (scale ++ marks short tied) in
    let long = is.grown (2 * 2 ^ v.dots - 1) (2 ^ v.dots) (pow_pos v.dots) in
    ap page_ending text
    ∙ apart (base_text v.recip) dots scale (marks short tied) (base_frac v.recip) (frac (2 * 2 ^ v.dots - 1) (2 ^ v.dots))
    (scale_frac v.recip) short tied is.base_bytes (all_alike is_dot v.dots 46 refl) is.scale_bytes (no_base v.dots v.recip short tied)
    (not_begun is_dot refl refl refl v.recip short tied) (marks_no_scale short tied) is.base (dots_read v.dots well.dots) is.scale
    (marks_read short tied)
    ∙ ap (λ len. Some (record { len = len; short = short; tied = tied })) long

-- ---- its bytes are printed, and the first is a digit or begins a word

marks_graphic : (short tied : Bool) → list_all is_graphic (marks short tied) ≡ true
marks_graphic true true = refl
marks_graphic true false = refl
marks_graphic false true = refl
marks_graphic false false = refl

pub ending_graphic : (v : Value) (short tied : Bool) → IsWrittenValue v → list_all is_graphic (ending_text v short tied) ≡ true
ending_graphic v short tied well =
    let is = recip_text v.recip well.part in
    let base = base_text v.recip in
    let dots = replicate v.dots 46 in
    let scale = scale_text v.recip in
    all_append is_graphic (base ++ dots ++ scale) (marks short tied)
    (all_append is_graphic (base ++ dots) scale
    (all_append is_graphic base dots (all_weaker is_base_byte is_graphic base base_byte_graphic is.base_bytes)
    (all_alike is_graphic v.dots 46 refl))
    (all_weaker is_scale_byte is_graphic scale scale_byte_graphic is.scale_bytes)) (marks_graphic short tied)

pub ending_begins : (v : Value) (short tied : Bool) → IsWrittenValue v → begins_value (ending_text v short tied) ≡ true
ending_begins v short tied well =
    let is = recip_text v.recip well.part in
    let dots : List ℕ = replicate v.dots 46 in
    begins_more (page_value v) (marks short tied)
    (begins_more (base_text v.recip ++ dots) (scale_text v.recip) (begins_more (base_text v.recip) dots is.begins))

-- ---- a value is some parts of a whole note

pub grid_some : (v : Value) → IsWrittenValue v → 1 ≤ value_grid v
grid_some v well = let is = recip_text v.recip well.part in some_product (plain_grid v.recip) (2 ^ v.dots) is.grid (pow_pos v.dots)
