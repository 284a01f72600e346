-- Nothing but the text of a value is read as it.
use Rattle.std.proofs.Common.{◌≡◌, ℕ, ◌^◌, ◌<◌, ◌==◌, ◌&&◌, Bool, true, false, List, [], ◌∷◌, ◌++◌, length, get_or, replicate, Option, Some, None, refl, sym, ap, ap₂, ◌∙◌, subst, arith}
use Rattle.std.specs.Prelude.{IfSome, codes, decimal, if◌then◌else◌, nat_le}
use Rattle.std.specs.Char.{is_ascii_digit}
use Rattle.std.specs.List.{list_all, prefix_len}
use Rattle.std.specs.Option.{option_map}
use Rattle.std.specs.Str.{bytes_eq}
use Rattle.std.specs.Str.Parse.{digits_value}
use Rattle.std.proofs.lemmas.Bool.{and_parts, leb-true}
use Rattle.std.proofs.lemmas.Bool.Decides.{nat_tests}
use Rattle.std.proofs.lemmas.Fmt.{decimal-digits_value}
use Rattle.std.proofs.lemmas.List.{take-append-drop}
use Rattle.std.proofs.lemmas.Slice.Eq.{bytes_eq-Decides}
use Rattle.rhythm_base.proofs.Numerals.{numerals}
use Rattle.durations.specs.declared.value.Recip.{Recip}
use Rattle.durations.specs.declared.value.Recip.TheVariants.{Of, Breve, Long}
use Rattle.durations.specs.declared.value.Value.{Value}
use Rattle.kern_writer.specs.Tokens.{recip_text, value_text}
use Rattle.text_words.specs.Values.{IsWellValue}
use Rattle.text_words.specs.Marks.{are_dots}
use Rattle.kern_reader.specs.Tokens.{digits_part, dots_part, recip_of, value_of}
use Rattle.text_words.specs.Numbers.{is_plain, number_of}
use Rattle.text_words.proofs.NumberLemmas.{plain_digits}
use Rattle.kern_reader.proofs.ScoreLemmas.{value_well}
use Rattle.kern_laws.specs.Laws.{OnlyValueTextsAreRead}

-- ---- the number

plain_first : (text : List ℕ) → is_plain text ≡ true → (0 < length text) × (get_or text 0 0 ≡ 48 → length text ≡ 1)
plain_first [] e = absurd (cc)
plain_first (d ∷ ds) e =
    let parts = and_parts (nat_le 49 d && nat_le d 57) (list_all is_ascii_digit ds) e in
    let low = leb-true 49 d (and_parts (nat_le 49 d) (nat_le d 57) parts.0).0 in
    (omega arith, λ zero. absurd (omega (arith, low, zero)))

-- digits without a leading 0 are what is written of their number
number_text : (most : ℕ) (text : List ℕ) (n : ℕ) → most < 2 ^ 64 → number_of most text ≡ Some n → text ≡ decimal n
unfolding number_of
number_text most text n small e = go (is_plain text) refl (nat_le (digits_value 10 text) most) refl e
  where
    go : (p : Bool) → is_plain text ≡ p → (q : Bool) → nat_le (digits_value 10 text) most ≡ q → (if p && q then Some (digits_value 10 text) else None) ≡ Some n
        → text ≡ decimal n
    go true plain true few e =
        let within = leb-true (digits_value 10 text) most few in
        let first = plain_first text plain in
        let same : digits_value 10 text ≡ n = cc in
        sym (decimal-digits_value numerals text (plain_digits text plain) first.0 first.1 (omega (arith, within, small))) ∙ ap decimal same
    go true plain false few e = absurd (cc)
    go false plain q few e = absurd (cc)

recip_is : (text : List ℕ) (recip : Recip) → recip_of text ≡ Some recip → text ≡ recip_text recip
unfolding recip_of
recip_is text recip e = go (bytes_eq text (codes "0")) refl (bytes_eq text (codes "00")) refl (number_of 61440 text) refl e
  where
    go : (b : Bool) → bytes_eq text (codes "0") ≡ b → (c : Bool) → bytes_eq text (codes "00") ≡ c → (o : Option ℕ) → number_of 61440 text ≡ o
        → (if b then Some Breve else if c then Some Long else option_map (λ n. Of n) o) ≡ Some recip → text ≡ recip_text recip
    go true is c d o f e = (bytes_eq-Decides text (codes "0")).0 is ∙ ap recip_text (let same : Breve ≡ recip = cc in same)
    go false is true other o f e = (bytes_eq-Decides text (codes "00")).0 other ∙ ap recip_text (let same : Long ≡ recip = cc in same)
    go false is false other (Some n) f e = number_text 61440 text n (omega arith) f ∙ ap recip_text (let same : Of n ≡ recip = cc in same)
    go false is false other None f e = absurd (cc)

-- ---- the dots

all_dots : (text : List ℕ) → list_all (λ b. b == 46) text ≡ true → text ≡ replicate (length text) 46
all_dots [] e = refl
all_dots (b ∷ bs) e =
    let parts = and_parts (b == 46) (list_all (λ b. b == 46) bs) e in
    let first : b ≡ 46 = dot b parts.0 in
    ap₂ ◌∷◌ first (all_dots bs parts.1)
  where
    dot : (b : ℕ) → (b == 46) ≡ true → b ≡ 46
    dot b e = grind (arith, nat_tests)

-- ---- both

text_is : (text : List ℕ) (v : Value) → value_of text ≡ Some v → text ≡ value_text v
unfolding value_of
text_is text v e = go (are_dots (dots_part text)) refl (recip_of (digits_part text)) refl e
  where
    go : (b : Bool) → are_dots (dots_part text) ≡ b → (o : Option Recip) → recip_of (digits_part text) ≡ o
        → (if b then option_map (λ recip. record { recip = recip; dots = length (dots_part text) }) o else None) ≡ Some v → text ≡ value_text v
    go true dots (Some recip) is e =
        let same : record { recip = recip; dots = length (dots_part text) } ≡ v = cc in
        let split = take-append-drop (prefix_len is_ascii_digit text) text in
        let marks = all_dots (dots_part text) (and_parts (list_all (λ b. b == 46) (dots_part text)) (nat_le (length (dots_part text)) 2) dots).0 in
        sym split ∙ ap₂ ◌++◌ (recip_is (digits_part text) recip is) marks ∙ ap value_text same
    go true dots None is e = absurd (cc)
    go false dots o is e = absurd (cc)

of_some : {A : Type 0} (P : A → Type 0) (o : Option A) (x : A) → o ≡ Some x → IfSome o P → P x
of_some P None x e h = absurd (cc)
of_some P (Some y) x e h = let same : y ≡ x = cc in subst P same h

pub only_value_texts_are_read : OnlyValueTextsAreRead
only_value_texts_are_read text v e = (of_some IsWellValue (value_of text) v e (value_well text), text_is text v e)
