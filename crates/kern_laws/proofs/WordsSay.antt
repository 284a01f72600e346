-- What the records say that have the same text in each column: the head, changes, barlines and the end.
use Rattle.std.proofs.Common.{◌≡◌, ℕ, ℤ, pos, negsuc, suc, ◌*◌, ◌+◌, ◌≤◌, ◌==◌, true, false, List, [], ◌∷◌, ◌++◌, append_assoc, refl, sym, ap, ◌∙◌, subst, arith}
use Rattle.std.specs.Prelude.{Some, None, codes, decimal, if◌then◌else◌, replicate, IsTrue}
use Rattle.std.specs.Char.{is_ascii_digit}
use Rattle.std.specs.List.{list_all, list_any}
use Rattle.std.specs.Str.{bytes_eq}
use Rattle.std.proofs.lemmas.Bool.{and_from, and_left, and_parts, or_left}
use Rattle.std.proofs.lemmas.Bool.Decides.{nat_tests}
use Rattle.std.proofs.lemmas.Fmt.{decimal_nonempty}
use Rattle.std.proofs.lemmas.List.{length-replicate}
use Rattle.rhythm_base.specs.Signatures.{IsSignature, is_den}
use Rattle.derivation.specs.declared.score.ScoreBar.{ScoreBar}
use Rattle.kern_writer.specs.Changes.{accidentals, key_text, signature_text, tempo_text}
use Rattle.score_words.specs.Changes.{quarters_of_minute}
use Rattle.kern_writer.specs.Records.{alike, barline_record, head}
use Rattle.text_words.specs.declared.time_signature.TimeSignature.{TimeSignature}
use Rattle.kern_reader.specs.Lines.{all_are, begins_signature, is_ending, is_heading, is_refused_word, line_of, other_line, signature_of}
use Rattle.text_words.specs.TimeSignatures.{signature_of_numbers, signature_of_parts}
use Rattle.text_words.specs.Lines.{begins_with}
use Rattle.kern_reader.specs.Text.{columns}
use Rattle.text_words.specs.Steps.{◌>>=◌}
use Rattle.text_words.specs.Numbers.{number_of}
use Rattle.kern_laws.specs.Lines.{KernLine}
use Rattle.kern_laws.proofs.ScoreLines.{Barline, ending_line, Heading, LastBarline, Other, Signature}
use Rattle.kern_laws.proofs.RecordsLines.{SaysInside, SaysLine, not_all, other_said, row_columns, row_says, row_text}
use Rattle.text_words.proofs.TextNumbers.{number_back}
use Rattle.text_words.proofs.TextSplits.{split_first, split_last}
use Rattle.text_words.proofs.TextTests.{all_alike, all_append, all_take, all_weaker, decimal_digits, digit_graphic, graphic_prints, is_printing, none_alike, slash_free}
use Rattle.kern_laws.proofs.TokenValues.{digits_begin}

bytes_same : (text : List ℕ) → bytes_eq text text ≡ true
bytes_same [] = refl
bytes_same (b ∷ text) = and_from (b == b) (bytes_eq text text) (same b) (bytes_same text)
  where
    same : (b : ℕ) → (b == b) ≡ true
    same b = grind (arith, nat_tests)

digit_prints : (b : ℕ) → is_ascii_digit b ≡ true → is_printing b ≡ true
digit_prints b h = graphic_prints b (digit_graphic b h)

decimal_prints : (n : ℕ) → list_all is_printing (decimal n) ≡ true
decimal_prints n = all_weaker is_ascii_digit is_printing (decimal n) digit_prints (decimal_digits n)

-- ---- a word in each of some columns

word_columns : (m : ℕ) (text : List ℕ) → list_all is_printing text ≡ true → columns (row_text (alike (suc m) text)) ≡ alike (suc m) text
word_columns m text prints = row_columns text (replicate m text) (all_alike (list_all is_printing) (suc m) text prints)

word_says : (m : ℕ) (text : List ℕ) (line : KernLine) → list_all is_printing text ≡ true → begins_with 33 text ≡ false
    → line_of (row_text (alike (suc m) text)) ≡ line
    → SaysLine (suc m) (alike (suc m) text) line
word_says m text line prints said is =
    row_says (suc m) text (replicate m text) line (all_alike (list_all is_printing) (suc m) text prints) said (length-replicate (suc m) text) is

word_ending : (m : ℕ) (text : List ℕ) → list_all is_printing text ≡ true → bytes_eq text (codes "*-") ≡ false
    → is_ending (row_text (alike (suc m) text)) ≡ false
word_ending m text prints differs = not_all (codes "*-") text (replicate m text) (all_alike (list_all is_printing) (suc m) text prints) differs

word_other : (m : ℕ) (text : List ℕ) → list_all is_printing text ≡ true → bytes_eq text (codes "**kern") ≡ false → bytes_eq text (codes "*-") ≡ false
    → line_of (row_text (alike (suc m) text)) ≡ other_line (alike (suc m) text)
word_other m text prints no_head no_end =
    other_said (row_text (alike (suc m) text)) (not_all (codes "**kern") text (replicate m text) (all_alike (list_all is_printing) (suc m) text prints) no_head)
    (word_ending m text prints no_end)
    ∙ ap other_line (word_columns m text prints)

-- ---- the head and the end

pub head_heading : (m : ℕ) → is_heading (row_text (head (suc m))) ≡ true
head_heading m =
    ap (all_are (codes "**kern")) (word_columns m (codes "**kern") refl) ∙ all_alike (λ text. bytes_eq text (codes "**kern")) (suc m)
    (codes "**kern") refl

pub head_says : (m : ℕ) → SaysLine (suc m) (head (suc m)) (Heading (suc m))
head_says m = word_says m (codes "**kern") (Heading (suc m)) refl refl refl

pub end_ending : (m : ℕ) → is_ending (row_text (alike (suc m) (codes "*-"))) ≡ true
end_ending m = ap (all_are (codes "*-")) (word_columns m (codes "*-") refl) ∙ all_alike (λ text. bytes_eq text (codes "*-")) (suc m) (codes "*-") refl

end_line : (text : List ℕ) → is_heading text ≡ false → is_ending text ≡ true → line_of text ≡ ending_line
unfolding line_of
end_line text no_head end = rw (no_head, end) refl

pub end_says : (m : ℕ) → SaysLine (suc m) (alike (suc m) (codes "*-")) ending_line
end_says m =
    let no_head = not_all (codes "**kern") (codes "*-") (replicate m (codes "*-"))
    (all_alike (list_all is_printing) (suc m) (codes "*-") refl) refl in
    word_says m (codes "*-") ending_line refl refl (end_line (row_text (alike (suc m) (codes "*-"))) no_head (end_ending m))

-- ---- barlines

all_word : (m : ℕ) (text : List ℕ) → all_are text (alike (suc m) text) ≡ true
all_word m text = all_alike (λ t. bytes_eq t text) (suc m) text (bytes_same text)

last_line : (m : ℕ) → other_line (alike (suc m) (codes "==")) ≡ LastBarline
unfolding other_line
last_line m = rw (all_word m (codes "==")) refl

pub last_says : (m : ℕ) → SaysLine (suc m) (alike (suc m) (codes "==")) LastBarline
last_says m = word_says m (codes "==") LastBarline refl refl (word_other m (codes "==") refl refl refl ∙ last_line m)

pub last_ending : (m : ℕ) → is_ending (row_text (alike (suc m) (codes "=="))) ≡ false
last_ending m = word_ending m (codes "==") refl refl

not_last : (digits : List ℕ) → list_all is_ascii_digit digits ≡ true → bytes_eq (61 ∷ digits) (codes "==") ≡ false
not_last [] h = refl
not_last (d ∷ digits) h =
    let parts = and_parts (is_ascii_digit d) (list_all is_ascii_digit digits) h in
    and_left (d == 61) (bytes_eq digits []) (no d parts.0)
  where
    no : (d : ℕ) → is_ascii_digit d ≡ true → (d == 61) ≡ false
    no d h = grind (arith, nat_tests)

bar_line : (m : ℕ) (digits : List ℕ) → list_all is_ascii_digit digits ≡ true → other_line (alike (suc m) (61 ∷ digits)) ≡ Barline
unfolding other_line
bar_line m digits h = rw (all_word m (61 ∷ digits), not_last digits h, h) refl

pub barline_says : (m n : ℕ) → SaysInside (suc m) (barline_record (suc m) n) Barline
barline_says m n =
    let text = codes "=" ++ decimal (n + 1) in
    record {
      says =
          word_says m text Barline (decimal_prints (n + 1)) refl
          (word_other m text (decimal_prints (n + 1)) refl refl ∙ bar_line m (decimal (n + 1)) (decimal_digits (n + 1)));
      ending = word_ending m text (decimal_prints (n + 1)) refl;
      body = refl;
    }

-- ---- keys and tempos

other_row : (m : ℕ) (text : List ℕ) → begins_with 42 text ≡ true → is_refused_word text ≡ false → begins_signature text ≡ false
    → other_line (alike (suc m) text) ≡ Other
unfolding other_line
other_row m text star known without = rw (none_alike is_refused_word (suc m) text known, none_alike begins_signature (suc m) text without, star) refl

other_inside : (m : ℕ) (text : List ℕ) → list_all is_printing text ≡ true → begins_with 42 text ≡ true → begins_with 33 text ≡ false
    → bytes_eq text (codes "**kern") ≡ false → bytes_eq text (codes "*-") ≡ false → is_refused_word text ≡ false → begins_signature text ≡ false
    → SaysInside (suc m) (alike (suc m) text) Other
other_inside m text prints star said no_head no_end known without = record {
  says = word_says m text Other prints said (word_other m text prints no_head no_end ∙ other_row m text star known without);
  ending = word_ending m text prints no_end;
  body = refl;
}

accidentals_print : (sf : ℤ) → list_all is_printing (accidentals sf) ≡ true
accidentals_print (pos n) = all_take is_printing (2 * n) (codes "f#c#g#d#a#e#b#") refl
accidentals_print (negsuc n) = all_take is_printing (2 * (n + 1)) (codes "b-e-a-d-g-c-f-") refl

pub key_says : (m : ℕ) (sf : ℤ) → SaysInside (suc m) (alike (suc m) (key_text sf)) Other
key_says m sf =
    other_inside m (key_text sf) (all_append is_printing (accidentals sf) (codes "]") (accidentals_print sf) refl) refl refl refl refl refl refl

pub tempo_says : (m : ℕ) (bar : ScoreBar) → SaysInside (suc m) (alike (suc m) (tempo_text bar)) Other
tempo_says m bar = other_inside m (tempo_text bar) (decimal_prints (quarters_of_minute bar.tempo)) refl refl refl refl refl refl

-- ---- signatures

den_range : (den : ℕ) → IsTrue (is_den den) → (1 ≤ den) × (den ≤ 64)
den_range den h = (grind (arith, nat_tests), grind (arith, nat_tests))

signature_parts : (bar : ScoreBar) → signature_text bar ≡ 42 ∷ 77 ∷ (decimal bar.num ++ 47 ∷ decimal bar.den)
signature_parts bar = ap (λ t. 42 ∷ 77 ∷ t) (append_assoc (decimal bar.num) (47 ∷ []) (decimal bar.den))

numbers_back : (num den : ℕ) → IsSignature num den
    → signature_of (42 ∷ 77 ∷ (decimal num ++ 47 ∷ decimal den)) ≡ Some (record { num = num; den = den })
unfolding signature_of
numbers_back num den h =
    let range = den_range den h.power in
    ap signature_of_numbers (split_first 47 (decimal num) (decimal den) (slash_free num))
    ∙ ap (λ parts. signature_of_numbers (decimal num ∷ parts)) (split_last 47 (decimal den) (slash_free den))
    ∙ ap (λ o. o >>= λ n. number_of 64 (decimal den) >>= λ d. signature_of_parts n d) (number_back 64 num h.some h.few (omega arith))
    ∙ ap (λ o. o >>= λ d. signature_of_parts num d) (number_back 64 den range.0 range.1 (omega arith))
    ∙ ap (λ b. if b then Some (record { num = num; den = den }) else None) h.power

signature_prints : (num den : ℕ) → list_all is_printing (42 ∷ 77 ∷ (decimal num ++ 47 ∷ decimal den)) ≡ true
signature_prints num den = all_append is_printing (decimal num) (47 ∷ decimal den) (decimal_prints num) (decimal_prints den)

signature_begins : (num den : ℕ) → num ≤ 64 → begins_signature (42 ∷ 77 ∷ (decimal num ++ 47 ∷ decimal den)) ≡ true
signature_begins num den few = digits_begin (decimal num) (47 ∷ decimal den) (decimal_nonempty num (omega (arith, few))) (decimal_digits num)

signature_row : (m : ℕ) (rest : List ℕ) (signature : TimeSignature) → begins_signature (42 ∷ 77 ∷ rest) ≡ true
    → signature_of (42 ∷ 77 ∷ rest) ≡ Some signature
    → other_line (alike (suc m) (42 ∷ 77 ∷ rest)) ≡ Signature signature
unfolding other_line
signature_row m rest signature begins is =
    let word = 42 ∷ 77 ∷ rest in
    let any : list_any begins_signature (alike (suc m) word) ≡ true = or_left (begins_signature word)
    (list_any begins_signature (replicate m word)) begins in
    rw (none_alike is_refused_word (suc m) word refl, any, all_word m word, is) refl

pub signature_says : (m : ℕ) (bar : ScoreBar) → IsSignature bar.num bar.den
    → SaysInside (suc m) (alike (suc m) (signature_text bar)) (Signature (record { num = bar.num; den = bar.den }))
signature_says m bar h =
    let rest = decimal bar.num ++ 47 ∷ decimal bar.den in
    let word = 42 ∷ 77 ∷ rest in
    let prints = signature_prints bar.num bar.den in
    let signature : TimeSignature = record { num = bar.num; den = bar.den } in
    subst (λ t. SaysInside (suc m) (alike (suc m) t) (Signature signature)) (sym (signature_parts bar)) (record {
      says = word_says m word (Signature signature) prints refl
          (word_other m word prints refl refl ∙ signature_row m rest signature (signature_begins bar.num bar.den h.few) (numbers_back bar.num bar.den h));
      ending = word_ending m word prints refl;
      body = refl;
    })
