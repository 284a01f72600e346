-- What a record says, as a line of the reader.
use Rattle.std.proofs.Common.{◌≡◌, ℕ, suc, ◌==◌, ◌&&◌, Bool, true, false, not, List, [], ◌∷◌, length, refl, sym, ap, ◌∙◌, arith}
use Rattle.std.specs.Prelude.{Some, codes}
use Rattle.std.specs.List.{join_with_byte, list_all}
use Rattle.std.specs.Option.{option_map}
use Rattle.std.specs.Str.{bytes_eq}
use Rattle.std.proofs.lemmas.Bool.{and_from, and_left, and_parts}
use Rattle.rhythm_base.specs.Lists.{Each}
use Rattle.kern_writer.specs.Records.{Record}
use Rattle.kern_reader.specs.declared.token.Token.{Token}
use Rattle.kern_reader.specs.Columns.{stage_after}
use Rattle.kern_reader.specs.Lines.{all_are, data_line, is_ending, is_heading, line_of, other_line}
use Rattle.text_words.specs.Lines.{begins_with}
use Rattle.kern_reader.specs.Text.{columns, is_skipped}
use Rattle.text_words.specs.Steps.{◌>>=◌}
use Rattle.kern_reader.specs.Tokens.{all_tokens}
use Rattle.kern_laws.specs.Lines.{KernLine}
use Rattle.kern_laws.proofs.ScoreLines.{Body, Data}
use Rattle.text_words.proofs.TextSplits.{false_of_not, split_joined}
use Rattle.kern_laws.proofs.LinesOfRecords.{in_line}
use Rattle.text_words.proofs.TextTests.{all_joined, all_weaker, is_printing, lacks, printing_no_newline, printing_no_tab}
use Rattle.kern_laws.proofs.TokenTexts.{SaysToken, begins_data}

abbrev pub row_text : Record → List ℕ
row_text row = join_with_byte 9 row

-- a record is one line of so many columns that is not skipped, and says this
pub record SaysLine (n : ℕ) (row : Record) (line : KernLine) : Type 0 where
  pub apart : in_line row ≡ true
  pub said : is_skipped (row_text row) ≡ false
  pub wide : length (columns (row_text row)) ≡ n
  pub is : line_of (row_text row) ≡ line

-- and neither the end of a score nor its last barline
pub record SaysInside (n : ℕ) (row : Record) (line : KernLine) : Type 0 where
  pub says : SaysLine n row line
  pub ending : is_ending (row_text row) ≡ false
  pub body : stage_after line ≡ Body

-- ---- columns of which each is printed

abbrev pub all_printing : Record → Bool
all_printing row = list_all (list_all is_printing) row

no_tabs : (text : List ℕ) → list_all is_printing text ≡ true → lacks 9 text ≡ true
no_tabs text h = all_weaker is_printing (λ b. not (b == 9)) text printing_no_tab h

no_newlines : (text : List ℕ) → list_all is_printing text ≡ true → list_all (λ b. not (b == 10)) text ≡ true
no_newlines text h = all_weaker is_printing (λ b. not (b == 10)) text printing_no_newline h

pub row_columns : (first : List ℕ) (rest : List (List ℕ)) → all_printing (first ∷ rest) ≡ true → columns (row_text (first ∷ rest)) ≡ first ∷ rest
row_columns first rest h = split_joined 9 first rest (all_weaker (list_all is_printing) (lacks 9) (first ∷ rest) no_tabs h)

row_apart : (row : Record) → all_printing row ≡ true → in_line row ≡ true
row_apart row h = all_joined (λ b. not (b == 10)) 9 row refl (all_weaker (list_all is_printing) (list_all (λ b. not (b == 10))) row no_newlines h)

row_said : (first : List ℕ) (rest : List (List ℕ)) → begins_with 33 first ≡ false → is_skipped (row_text (first ∷ rest)) ≡ false
row_said [] [] h = refl
row_said [] (next ∷ rest) h = refl
row_said (b ∷ first) [] h = h
row_said (b ∷ first) (next ∷ rest) h = h

pub row_says : (n : ℕ) (first : List ℕ) (rest : List (List ℕ)) (line : KernLine) → all_printing (first ∷ rest) ≡ true
    → begins_with 33 first ≡ false → length (first ∷ rest) ≡ n
    → line_of (row_text (first ∷ rest)) ≡ line → SaysLine n (first ∷ rest) line
row_says n first rest line printing said count is = record {
  apart = row_apart (first ∷ rest) printing;
  said = row_said first rest said;
  wide = ap length (row_columns first rest printing) ∙ count;
  is = is;
}

-- a word that is not the first column does not stand in all
pub not_all : (word first : List ℕ) (rest : List (List ℕ)) → all_printing (first ∷ rest) ≡ true → bytes_eq first word ≡ false
    → all_are word (columns (row_text (first ∷ rest))) ≡ false
not_all word first rest printing differs =
    ap (all_are word) (row_columns first rest printing) ∙ and_left (bytes_eq first word) (all_are word rest) differs

-- what is neither a head nor an end
pub other_said : (text : List ℕ) → is_heading text ≡ false → is_ending text ≡ false → line_of text ≡ other_line (columns text)
unfolding line_of
other_said text no_head no_end = rw (no_head, no_end) refl

-- ---- data

each_printing : (row : Record) (tokens : List Token) → Each SaysToken row tokens → all_printing row ≡ true
each_printing [] tokens h = refl
each_printing (text ∷ row) [] h = absurd h
each_printing (text ∷ row) (t ∷ tokens) h = and_from (list_all is_printing text) (all_printing row) h.0.printing (each_printing row tokens h.1)

each_read : (row : Record) (tokens : List Token) → Each SaysToken row tokens → all_tokens row ≡ Some tokens
each_read [] tokens h = ap Some (sym h)
each_read (text ∷ row) [] h = absurd h
each_read (text ∷ row) (t ∷ tokens) h =
    ap (λ o. o >>= λ t. option_map (λ ts. t ∷ ts) (all_tokens row)) h.0.is ∙ ap (λ o. option_map (λ ts. t ∷ ts) o) (each_read row tokens h.1)

-- the first byte of data is none of these
data_bytes : (text : List ℕ) → begins_data text ≡ true → (begins_with 33 text ≡ false) × (begins_with 42 text ≡ false) × (begins_with 61 text ≡ false)
data_bytes [] h = cc
data_bytes (b ∷ text) h =
    let one = and_parts (not (b == 33)) (not (b == 42) && not (b == 61)) h in
    let two = and_parts (not (b == 42)) (not (b == 61)) one.1 in
    (false_of_not (b == 33) one.0, false_of_not (b == 42) two.0, false_of_not (b == 61) two.1)

not_word : (text word : List ℕ) → begins_with 42 text ≡ false → bytes_eq text (42 ∷ word) ≡ false
not_word [] word h = refl
not_word (b ∷ text) word h = and_left (b == 42) (bytes_eq text word) h

data_other : (first : List ℕ) (rest : List (List ℕ)) → begins_with 42 first ≡ false → begins_with 61 first ≡ false
    → other_line (first ∷ rest) ≡ data_line (all_tokens (first ∷ rest))
unfolding other_line
data_other first rest star equals = rw (star, equals) refl

data_row : (n : ℕ) (first : List ℕ) (rest : List (List ℕ)) (tokens : List Token) → Each SaysToken (first ∷ rest) tokens
    → begins_data first ≡ true → length (first ∷ rest) ≡ n
    → SaysInside n (first ∷ rest) (Data tokens)
data_row n first rest tokens each begins count =
    let printing = each_printing (first ∷ rest) tokens each in
    let bytes = data_bytes first begins in
    let no_head : is_heading (row_text (first ∷ rest)) ≡ false = not_all (codes "**kern") first rest printing
    (not_word first (codes "*kern") bytes.1) in
    let no_end : is_ending (row_text (first ∷ rest)) ≡ false = not_all (codes "*-") first rest printing (not_word first (codes "-") bytes.1) in
    let is : line_of (row_text (first ∷ rest)) ≡ Data tokens =
    other_said (row_text (first ∷ rest)) no_head no_end ∙ ap other_line (row_columns first rest printing)
    ∙ data_other first rest bytes.1 bytes.2 ∙ ap data_line (each_read (first ∷ rest) tokens each) in
    record { says = row_says n first rest (Data tokens) printing bytes.0 count is; ending = no_end; body = refl }

-- a record of some columns, each of which says a token
pub data_says : (n : ℕ) (row : Record) (tokens : List Token) → Each SaysToken row tokens → length row ≡ suc n → SaysInside (suc n) row (Data tokens)
data_says n [] tokens each count = absurd (omega (arith, count))
data_says n (first ∷ rest) [] each count = absurd each
data_says n (first ∷ rest) (t ∷ tokens) each count = data_row (suc n) first rest (t ∷ tokens) each each.0.first count
