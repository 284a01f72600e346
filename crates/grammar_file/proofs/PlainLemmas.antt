-- Lines of plain words are read as they were written.
use Rattle.std.proofs.Common.{◌≡◌, ℕ, ◌+◌, ◌-◌, ◌<◌, ◌≤◌, ◌^◌, ◌==◌, ◌&&◌, Bool, true, false, not, nat_le, List, [], ◌∷◌, ◌++◌, length, map, filter, drop, All, refl, sym, ap, ◌∙◌, subst, arith}
use Rattle.std.proofs.lemmas.Bool.{and_parts}
use Rattle.std.proofs.lemmas.Bool.Decides.{nat_tests}
use Rattle.std.proofs.lemmas.Fmt.{decimal_nonempty, digits_decimal}
use Rattle.std.proofs.lemmas.List.{append_assoc, length-append}
use Rattle.std.proofs.lemmas.List.Elements.{All-drop, All-from_recursion, All-head}
use Rattle.std.proofs.lemmas.List.Splits.{slice_split_at, slice_split_none, length-slice_split}
use Rattle.std.proofs.lemmas.Slice.Eq.{bytes_eq-Decides}
use Rattle.std.specs.Char.{is_ascii_digit, is_ascii_uppercase}
use Rattle.std.specs.Fmt.{decimal}
use Rattle.std.specs.List.{AllByRecursion, flat_map, join_with_byte, list_all, slice_split}
use Rattle.std.specs.Prelude.{codes}
use Rattle.std.specs.Str.{bytes_eq}
use Rattle.grammar_file.proofs.LineLemmas.{lines_among_more, without_return-none}
use Rattle.rhythm_base.proofs.Numerals.{numerals}
use Rattle.grammar_file.specs.Content.{content_from, numbered_lines, says_something}
use Rattle.grammar_file.specs.Lines.{is_blank, lines_among, grammar_lines, newline, without_return, grammar_words}
use Rattle.grammar_file.specs.Names.{is_name, is_name_byte}
use Rattle.grammar_file.specs.Printed.{line_text}
use Rattle.grammar_file.specs.declared.line.Line.{Line}

-- a byte that neither parts words nor begins a comment
abbrev pub is_plain : ℕ → Bool
is_plain b = not (is_blank b) && not (b == 10) && not (b == 13) && not (b == 35)

abbrev pub IsPlain : List ℕ → Type 0
IsPlain word = (list_all is_plain word ≡ true) × (1 ≤ length word)

-- a line with a word
abbrev pub ArePlain : List (List ℕ) → Type 0
ArePlain words = (1 ≤ length words) × AllByRecursion IsPlain words

-- what holds of bytes that pass a test
each_byte : (test : ℕ → Bool) (P : ℕ → Type 0) (bytes : List ℕ) → ((b : ℕ) → test b ≡ true → P b) → list_all test bytes ≡ true → AllByRecursion P bytes
each_byte test P [] f all = tt
each_byte test P (b ∷ bytes) f all = let parts = and_parts (test b) (list_all test bytes) all in (f b parts.0, each_byte test P bytes f parts.1)

not_blank : (b : ℕ) → is_plain b ≡ true → is_blank b ≡ false
not_blank b plain = at (is_blank b) plain
  where
    at : (t : Bool) → (not t && not (b == 10) && not (b == 13) && not (b == 35)) ≡ true → t ≡ false
    at true e = absurd (cc)
    at false e = refl

not_newline : (b : ℕ) → is_plain b ≡ true → (b == newline) ≡ false
not_newline b plain = at (b == 10) (and_parts (not (is_blank b)) (not (b == 10)) (and_parts (not (is_blank b) && not (b == 10)) (not (b == 13)) (and_parts (not (is_blank b) && not (b == 10) && not (b == 13)) (not (b == 35)) plain).0).0).1
  where
    at : (t : Bool) → not t ≡ true → t ≡ false
    at true e = absurd (cc)
    at false e = refl

not_return : (b : ℕ) → is_plain b ≡ true → (b == 13) ≡ false
not_return b plain = at (b == 13) (and_parts (not (is_blank b) && not (b == 10)) (not (b == 13)) (and_parts (not (is_blank b) && not (b == 10) && not (b == 13)) (not (b == 35)) plain).0).1
  where
    at : (t : Bool) → not t ≡ true → t ≡ false
    at true e = absurd (cc)
    at false e = refl

not_hash : (b : ℕ) → is_plain b ≡ true → (b == 35) ≡ false
not_hash b plain = at (b == 35) (and_parts (not (is_blank b) && not (b == 10) && not (b == 13)) (not (b == 35)) plain).1
  where
    at : (t : Bool) → not t ≡ true → t ≡ false
    at true e = absurd (cc)
    at false e = refl

-- the words of a line
split_words : (words : List (List ℕ)) → 1 ≤ length words → AllByRecursion IsPlain words → slice_split is_blank (join_with_byte 32 words) ≡ words
split_words [] some plain = absurd (omega arith)
split_words (word ∷ []) some plain =
    slice_split_none is_blank word (All-from_recursion (λ b. is_blank b ≡ false) word (each_byte is_plain (λ b. is_blank b ≡ false) word not_blank plain.0.0))
split_words (word ∷ next ∷ words) some plain =
    slice_split_at is_blank word 32 (join_with_byte 32 (next ∷ words))
    (All-from_recursion (λ b. is_blank b ≡ false) word (each_byte is_plain (λ b. is_blank b ≡ false) word not_blank plain.0.0)) refl
    ∙ ap (λ ws. word ∷ ws) (split_words (next ∷ words) (omega arith) plain.1)

kept_words : (words : List (List ℕ)) → AllByRecursion IsPlain words → filter (λ word. not (length word == 0)) words ≡ words
kept_words [] plain = refl
kept_words (word ∷ words) plain =
    let some : (length word == 0) ≡ false = grind (arith, nat_tests, plain.0.1) in
    rw some (ap (λ ws. word ∷ ws) (kept_words words plain.1))

pub words_of_line : (words : List (List ℕ)) → ArePlain words → grammar_words (join_with_byte 32 words) ≡ words
words_of_line words plain = ap (filter (λ word. not (length word == 0))) (split_words words plain.0 plain.1) ∙ kept_words words plain.1

-- no byte of a line is a newline or a carriage return
all_both : (P : ℕ → Type 0) (xs ys : List ℕ) → AllByRecursion P xs → AllByRecursion P ys → AllByRecursion P (xs ++ ys)
all_both P [] ys left right = right
all_both P (x ∷ xs) ys left right = (left.0, all_both P xs ys left.1 right)

line_bytes : (P : ℕ → Type 0) → P 32 → ((b : ℕ) → is_plain b ≡ true → P b) → (words : List (List ℕ)) → AllByRecursion IsPlain words → AllByRecursion P (join_with_byte 32 words)
line_bytes P space each [] plain = tt
line_bytes P space each (word ∷ []) plain = each_byte is_plain P word each plain.0.0
line_bytes P space each (word ∷ next ∷ words) plain =
    all_both P word (32 ∷ join_with_byte 32 (next ∷ words)) (each_byte is_plain P word each plain.0.0) (space, line_bytes P space each (next ∷ words) plain.1)

no_return : (line : List ℕ) → AllByRecursion (λ b. (b == 13) ≡ false) line → without_return line ≡ line
no_return line all = at (bytes_eq (drop (length line - 1) line) (13 ∷ [])) refl
  where
    P : ℕ → Type 0
    P b = (b == 13) ≡ false

    at : (t : Bool) → bytes_eq (drop (length line - 1) line) (13 ∷ []) ≡ t → without_return line ≡ line
    at false e = sym (without_return-none line e)
    at true e =
        let is = (bytes_eq-Decides (drop (length line - 1) line) (13 ∷ [])).0 e in
        let last = subst (All P) is (All-drop P (length line - 1) line (All-from_recursion P line all)) in
        let wrong : (13 == 13) ≡ false = All-head P 13 [] last in
        absurd (cc)

-- the lines of a text
pub lines_of_text : (lines : List (List (List ℕ))) → AllByRecursion ArePlain lines → grammar_lines (flat_map line_text lines) ≡ map (join_with_byte 32) lines
lines_of_text [] plain = refl
lines_of_text (words ∷ lines) plain =
    let line = join_with_byte 32 words in
    let rest = flat_map line_text lines in
    ap grammar_lines (append_assoc line (newline ∷ []) rest)
    ∙ ap lines_among (slice_split_at (λ b. b == newline) line newline rest
    (All-from_recursion (λ b. (b == newline) ≡ false) line (line_bytes (λ b. (b == newline) ≡ false) refl not_newline words plain.0.1)) refl)
    ∙ lines_among_more line (slice_split (λ b. b == newline) rest) (omega (arith, length-slice_split (λ b. b == newline) rest))
    ∙ ap (λ first. first ∷ grammar_lines rest) (no_return line (line_bytes (λ b. (b == 13) ≡ false) refl not_return words plain.0.1))
    ∙ ap (λ more. line ∷ more) (lines_of_text lines plain.1)

-- the lines with their numbers
abbrev pub lines_from : ℕ → List (List (List ℕ)) → List Line
lines_from n [] = []
lines_from n (words ∷ lines) = record { number = n; words = words } ∷ lines_from (n + 1) lines

says : (words : List (List ℕ)) → ArePlain words → says_something words ≡ true
says [] plain = absurd (omega (arith, plain.0))
says ([] ∷ words) plain = absurd (omega (arith, plain.1.0.1))
says ((b ∷ bytes) ∷ words) plain =
    let other = not_hash b (and_parts (is_plain b) (list_all is_plain bytes) plain.1.0.0).0 in
    grind (arith, nat_tests, other)

said_lines : (n : ℕ) (lines : List (List (List ℕ))) → AllByRecursion ArePlain lines
    → filter (λ line. says_something line.words) (numbered_lines n (map (join_with_byte 32) lines)) ≡ lines_from n lines
said_lines n [] plain = refl
said_lines n (words ∷ lines) plain =
    rw (words_of_line words plain.0, says words plain.0) (ap (λ more. record { number = n; words = words } ∷ more) (said_lines (n + 1) lines plain.1))

pub content_of_text : (lines : List (List (List ℕ))) → AllByRecursion ArePlain lines → (content_from 1 (grammar_lines (flat_map line_text lines))).lines ≡ lines_from 1 lines
unfolding content_from
content_of_text lines plain =
    ap (λ ls. filter (λ line. says_something line.words) (numbered_lines 1 ls)) (lines_of_text lines plain) ∙ said_lines 1 lines plain

-- plain words: numbers and names
digits_plain : (b : ℕ) → is_ascii_digit b ≡ true → is_plain b ≡ true
digits_plain b digit = grind (arith, nat_tests, digit)

list_all-weaker : (p q : ℕ → Bool) (bytes : List ℕ) → ((b : ℕ) → p b ≡ true → q b ≡ true) → list_all p bytes ≡ true → list_all q bytes ≡ true
list_all-weaker p q [] f all = refl
list_all-weaker p q (b ∷ bytes) f all =
    let parts = and_parts (p b) (list_all p bytes) all in rw (f b parts.0) (list_all-weaker p q bytes f parts.1)

pub decimal_plain : (n : ℕ) → n < 2 ^ 64 → IsPlain (decimal n)
decimal_plain n small =
    (list_all-weaker is_ascii_digit is_plain (decimal n) digits_plain (digits_decimal numerals n small), omega (arith, decimal_nonempty n small))

name_bytes_plain : (b : ℕ) → is_name_byte b ≡ true → is_plain b ≡ true
unfolding is_name_byte
name_bytes_plain b byte = grind (arith, nat_tests, byte)

pub name_plain : (word : List ℕ) → is_name word ≡ true → IsPlain word
unfolding is_name
name_plain [] name = absurd (cc)
name_plain (b ∷ bytes) name =
    let outer = and_parts (is_ascii_uppercase b && nat_le (length bytes) 15) (list_all is_name_byte bytes) name in
    let inner = and_parts (is_ascii_uppercase b) (nat_le (length bytes) 15) outer.0 in
    let first : is_plain b ≡ true = grind (arith, nat_tests, inner.0) in
    (rw first (list_all-weaker is_name_byte is_plain bytes name_bytes_plain outer.1), omega arith)

list_all-both : (p : ℕ → Bool) (xs ys : List ℕ) → list_all p xs ≡ true → list_all p ys ≡ true → list_all p (xs ++ ys) ≡ true
list_all-both p [] ys left right = right
list_all-both p (x ∷ xs) ys left right =
    let parts = and_parts (p x) (list_all p xs) left in rw parts.0 (list_all-both p xs ys parts.1 right)

pub signature_plain : (num den : ℕ) → num < 2 ^ 64 → den < 2 ^ 64 → IsPlain (decimal num ++ codes "/" ++ decimal den)
signature_plain num den small least =
    let front = decimal_plain num small in (
      list_all-both is_plain (decimal num ++ codes "/") (decimal den) (list_all-both is_plain (decimal num) (codes "/") front.0 refl) (decimal_plain den least).0,
      omega (arith, front.1, length-append (decimal num ++ codes "/") (decimal den), length-append (decimal num) (codes "/")),
    )
