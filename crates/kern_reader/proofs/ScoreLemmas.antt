-- The score that a **kern text says is in the ranges of what is read.
use Rattle.std.proofs.Common.{◌≡◌, ℕ, suc, ◌+◌, ◌^◌, ◌<◌, ◌≤◌, ◌&&◌, Bool, true, false, List, [], ◌∷◌, ◌++◌, length, reverse, refl, sym, subst, arith, Option, Some, None, Result, Ok, Err}
use Rattle.std.specs.Prelude.{⊤, ◌==◌, All, IfSome, codes, drop, if◌then◌else◌, nat_le}
use Rattle.std.specs.Char.{is_ascii_digit}
use Rattle.std.specs.List.{list_all, list_any, slice_split, zip}
use Rattle.std.specs.Option.{option_map}
use Rattle.std.specs.Str.{bytes_eq}
use Rattle.std.specs.Str.Parse.{digits_value}
use Rattle.std.proofs.lemmas.Bool.{and_parts, leb-true}
use Rattle.std.proofs.lemmas.Bool.Decides.{nat_tests}
use Rattle.std.proofs.lemmas.List.{length-map, length-replicate, length-reverse}
use Rattle.std.proofs.lemmas.List.Elements.{All-cons, All-map, All-nil, All-weaker}
use Rattle.std.proofs.lemmas.List.Splits.{length-slice_split}
use Rattle.std.proofs.lemmas.List.Sums.{count_by-le-length}
use Rattle.std.proofs.lemmas.Slice.Zip.{length-zip}
use Rattle.durations.specs.Value.{plain_grid}
use Rattle.durations.specs.declared.value.Recip.TheVariants.{Of, Breve, Long}
use Rattle.durations.specs.declared.value.Value.{Value}
use Rattle.kern_reader.specs.declared.fault.KernFault.{KernFault}
use Rattle.kern_reader.specs.declared.fault.KernWhat.{KernWhat}
use Rattle.kern_reader.specs.declared.fault.KernWhat.TheVariants as what
use Rattle.kern_reader.specs.declared.line.KernLine.{KernLine}
use Rattle.kern_reader.specs.declared.line.KernLine.TheVariants.{Heading, Signature, Other, Ending, Barline, LastBarline, Data, Unread}
use Rattle.kern_reader.specs.declared.line.Stage.{Stage}
use Rattle.kern_reader.specs.declared.line.Stage.TheVariants as stage
use Rattle.kern_reader.specs.declared.token.Note.{Note}
use Rattle.kern_reader.specs.declared.token.Style.{Style}
use Rattle.kern_reader.specs.declared.token.Style.TheVariants as style
use Rattle.kern_reader.specs.declared.token.TieMark.{TieMark}
use Rattle.text_words.specs.declared.time_signature.TimeSignature.{TimeSignature}
use Rattle.kern_reader.specs.declared.token.Token.{Token}
use Rattle.kern_reader.specs.declared.token.Token.TheVariants as token
use Rattle.kern_reader.specs.Columns.{add_bar, add_token, announced, columns_of, current_bar, grid_of, grid_with, line_values, spines_of, stage_of}
use Rattle.kern_reader.specs.Faults.{first_fault, has_no_grid, has_wrong_grace, has_wrong_tie, is_misplaced, is_unread, is_wrong_bar, line_fault, said_tests, text_tests}
use Rattle.kern_reader.specs.Lines.{IsWellLine, all_are, barline_said, begins_signature, data_line, interpretation, is_ending, is_heading, is_refused_word, line_of, other_line, signature_line, signature_of}
use Rattle.text_words.specs.TimeSignatures.{signature_of_numbers, signature_of_parts}
use Rattle.kern_reader.specs.Outcome.{at_end, or_fault, read_from, read_text, score_of, scored}
use Rattle.kern_reader.specs.Reading.{HasWidth}
use Rattle.kern_reader.specs.Score.{IsColumnOn, IsKernScore, IsTokenOn, KernColumns, score_columns}
use Rattle.text_words.specs.Lines.{begins_with, text_lines, lines_of_pieces}
use Rattle.kern_reader.specs.Text.{columns, is_skipped}
use Rattle.text_words.specs.Steps.{◌>>=◌}
use Rattle.kern_reader.specs.Tokens.{IsWellSignature, IsWellStyle, IsWellToken, all_notes, all_tokens, token_chord, chord_of_notes, chord_token, digits_part, dots_part, grace_note, pitch_key, keys_with, marks_of, marks_part, note_of, pitch_part, recip_of, rest_of, rising_notes, token_of, value_of, value_part, valued_note}
use Rattle.text_words.specs.Values.{IsWellValue}
use Rattle.text_words.specs.Marks.{are_dots}
use Rattle.text_words.specs.Numbers.{is_plain, number_of}
use Rattle.kern_reader.proofs.ColumnLemmas.{IsShort, columns_on, columns_short, grid_some}
use Rattle.text_words.proofs.NumberLemmas.{plain_some}
use Rattle.kern_reader.proofs.WidthLemmas.{passes, wide}
use Rattle.rhythm_base.specs.Signatures.{is_den}
use Rattle.rhythm_base.proofs.ListParts.{all_reversed}

-- ---- what is read where there is something

map_some : {A B : Type 0} (f : A → B) (P : A → Type 0) (Q : B → Type 0) → ((x : A) → P x → Q (f x)) → (o : Option A) → IfSome o P → IfSome (option_map f o) Q
map_some f P Q more None h = tt
map_some f P Q more (Some x) h = more x h

then_some : {A B : Type 0} (o : Option A) (next : A → Option B) (P : A → Type 0) (Q : B → Type 0) → IfSome o P → ((x : A) → P x → IfSome (next x) Q) → IfSome (o >>= next) Q
then_some None next P Q h more = tt
then_some (Some x) next P Q h more = more x h

then_any : {A B : Type 0} (o : Option A) (next : A → Option B) (Q : B → Type 0) → ((x : A) → IfSome (next x) Q) → IfSome (o >>= next) Q
then_any None next Q more = tt
then_any (Some x) next Q more = more x

either : {A : Type 0} (b : Bool) (Q : A → Type 0) (x y : Option A) → IfSome x Q → IfSome y Q → IfSome (if b then x else y) Q
either true Q x y h k = h
either false Q x y h k = k

-- ---- values

abbrev IsWithin : ℕ → ℕ → Type 0
IsWithin most n = (1 ≤ n) × (n ≤ most)

number_within : (most : ℕ) (text : List ℕ) → IfSome (number_of most text) (IsWithin most)
unfolding number_of
number_within most text = at (is_plain text) refl (nat_le (digits_value 10 text) most) refl
  where
    at : (p : Bool) → is_plain text ≡ p → (q : Bool) → nat_le (digits_value 10 text) most ≡ q → IfSome (if p && q then Some (digits_value 10 text) else None) (IsWithin most)
    at true plain true few = (plain_some text plain, leb-true (digits_value 10 text) most few)
    at true plain false few = tt
    at false plain true few = tt
    at false plain false few = tt

recip_within : (text : List ℕ) → IfSome (recip_of text) (λ r. IsWithin 61440 (plain_grid r))
unfolding recip_of
recip_within text =
    either (bytes_eq text (codes "0")) (λ r. IsWithin 61440 (plain_grid r)) (Some Breve) _ (omega arith, omega arith)
    (either (bytes_eq text (codes "00")) (λ r. IsWithin 61440 (plain_grid r)) (Some Long) _ (omega arith, omega arith)
    (map_some (λ n. Of n) (IsWithin 61440) (λ r. IsWithin 61440 (plain_grid r)) (λ n h. h) (number_of 61440 text) (number_within 61440 text)))

pub value_well : (text : List ℕ) → IfSome (value_of text) IsWellValue
unfolding value_of
value_well text = at (are_dots (dots_part text)) refl
  where
    at : (b : Bool) → are_dots (dots_part text) ≡ b
        → IfSome (if b then option_map (λ recip. record { recip = recip; dots = length (dots_part text) }) (recip_of (digits_part text)) else None) IsWellValue
    at true dots =
        let two = leb-true (length (dots_part text)) 2 (and_parts (list_all (λ b. b == 46) (dots_part text)) (nat_le (length (dots_part text)) 2) dots).1 in
        map_some _ (λ r. IsWithin 61440 (plain_grid r)) IsWellValue (λ r h. record { some = h.0; few = h.1; dots = two }) (recip_of (digits_part text)) (recip_within (digits_part text))
    at false dots = tt

-- ---- tokens

abbrev IsWellWritten : Note → Type 0
IsWellWritten n = IsWellStyle n.style

valued_well : (opens : Bool) (text : List ℕ) → IfSome (valued_note opens text) IsWellWritten
unfolding valued_note
valued_well opens text = at (value_of (value_part text)) (value_well (value_part text)) (pitch_key (pitch_part text)) (marks_of (marks_part text))
  where
    at : (v : Option Value) → IfSome v IsWellValue → (k : Option ℕ) (m : Option (TieMark × Bool))
        → IfSome (v >>= λ value. k >>= λ key. m >>= λ marks. Some (record { style = style.Valued (record { value = value; opens = opens; tie = marks.0; short = marks.1 }); key = key })) IsWellWritten
    at None well k m = tt
    at (Some value) well None m = tt
    at (Some value) well (Some key) None = tt
    at (Some value) well (Some key) (Some marks) = well

grace_well : (text : List ℕ) → IfSome (grace_note text) IsWellWritten
grace_well text = at (pitch_key text)
  where
    at : (o : Option ℕ) → IfSome (option_map (λ key. record { style = style.Grace; key = key }) o) IsWellWritten
    at None = tt
    at (Some key) = tt

note_well : (text : List ℕ) → IfSome (note_of text) IsWellWritten
unfolding note_of
note_well [] = tt
note_well (b ∷ text) =
    either (b == 113) IsWellWritten (grace_note text) _ (grace_well text)
    (either (b == 91) IsWellWritten (valued_note true text) (valued_note false (b ∷ text)) (valued_well true text) (valued_well false (b ∷ text)))

abbrev IsWellFirst : List Note → Type 0
IsWellFirst [] = ⊤
IsWellFirst (note ∷ notes) = IsWellWritten note

first_well : (texts : List (List ℕ)) → IfSome (all_notes texts) IsWellFirst
first_well [] = tt
first_well (text ∷ texts) = then_some (note_of text) _ IsWellWritten IsWellFirst (note_well text) (λ note well. at note well (all_notes texts))
  where
    at : (note : Note) → IsWellWritten note → (o : Option (List Note)) → IfSome (option_map (λ notes. note ∷ notes) o) IsWellFirst
    at note well None = tt
    at note well (Some notes) = well

styled_well : (s : Style) (keys : ℕ) → IsWellStyle s → IsWellToken (chord_token s keys)
styled_well style.Grace keys well = tt
styled_well (style.Valued w) keys well = well

notes_well : (notes : List Note) → IsWellFirst notes → IfSome (chord_of_notes notes) IsWellToken
notes_well [] well = tt
notes_well (note ∷ notes) well =
    either (rising_notes note notes) IsWellToken (Some (chord_token note.style (keys_with (2 ^ note.key) notes))) None (styled_well note.style (keys_with (2 ^ note.key) notes) well) tt

chord_well : (text : List ℕ) → IfSome (token_chord text) IsWellToken
unfolding token_chord
chord_well text =
    let texts = slice_split (λ b. b == 32) text in
    then_some (all_notes texts) chord_of_notes IsWellFirst IsWellToken (first_well texts) notes_well

token_well : (text : List ℕ) → IfSome (token_of text) IsWellToken
unfolding token_of
token_well text =
    either (bytes_eq text (codes ".")) IsWellToken (Some token.Null) _ tt
    (either _ IsWellToken (rest_of (value_part text)) (token_chord text)
    (map_some (λ value. token.Rest value) IsWellValue IsWellToken (λ value well. well) (value_of (value_part text)) (value_well (value_part text))) (chord_well text))

tokens_well : (texts : List (List ℕ)) → IfSome (all_tokens texts) (All IsWellToken)
tokens_well [] = All-nil IsWellToken
tokens_well (text ∷ texts) =
    let rest = tokens_well texts in
    then_some (token_of text) _ IsWellToken (All IsWellToken) (token_well text)
    (λ t well. map_some (λ ts. t ∷ ts) (All IsWellToken) (All IsWellToken) (λ ts all. All-cons IsWellToken t ts well all) (all_tokens texts) rest)

-- ---- lines

either_line : (b : Bool) (x y : KernLine) → IsWellLine x → IsWellLine y → IsWellLine (if b then x else y)
either_line true x y h k = h
either_line false x y h k = k

parts_well : (num den : ℕ) → IsWithin 64 num → IfSome (signature_of_parts num den) IsWellSignature
parts_well num den (some, few) = at (is_den den) refl
  where
    at : (b : Bool) → is_den den ≡ b → IfSome (if b then Some (record { num = num; den = den }) else None) IsWellSignature
    at true power = record { some = some; few = few; power = power }
    at false power = tt

numbers_well : (texts : List (List ℕ)) → IfSome (signature_of_numbers texts) IsWellSignature
numbers_well [] = tt
numbers_well (first ∷ []) = tt
numbers_well (first ∷ second ∷ []) =
    then_some (number_of 64 first) _ (IsWithin 64) IsWellSignature (number_within 64 first) (λ num well. then_any (number_of 64 second) _ IsWellSignature (λ den. parts_well num den well))
numbers_well (first ∷ second ∷ third ∷ texts) = tt

signature_well : (o : Option TimeSignature) → IfSome o IsWellSignature → IsWellLine (signature_line o)
signature_well None well = tt
signature_well (Some signature) well = well

said_signature_well : (first : List ℕ) → IsWellLine (signature_line (signature_of first))
unfolding signature_of
said_signature_well first = signature_well (signature_of first) (numbers_well (slice_split (λ b. b == 47) (drop 2 first)))

interpretation_well : (first : List ℕ) (texts : List (List ℕ)) → IsWellLine (interpretation first texts)
interpretation_well first texts =
    either_line (list_any is_refused_word texts) Unread _ tt
    (either_line (list_any begins_signature texts) (if all_are first texts then signature_line (signature_of first) else Unread) Other
    (either_line (all_are first texts) (signature_line (signature_of first)) Unread (said_signature_well first) tt) tt)

barline_well : (first : List ℕ) (texts : List (List ℕ)) → IsWellLine (barline_said first texts)
barline_well first texts =
    either_line (all_are first texts) (if bytes_eq first (codes "==") then LastBarline else if list_all is_ascii_digit (drop 1 first) then Barline else Unread) Unread
    (either_line (bytes_eq first (codes "==")) LastBarline (if list_all is_ascii_digit (drop 1 first) then Barline else Unread) tt
    (either_line (list_all is_ascii_digit (drop 1 first)) Barline Unread tt tt)) tt

data_well : (o : Option (List Token)) → IfSome o (All IsWellToken) → IsWellLine (data_line o)
data_well None well = tt
data_well (Some tokens) well = well

other_well : (texts : List (List ℕ)) → IsWellLine (other_line texts)
unfolding other_line
other_well [] = tt
other_well (first ∷ more) =
    either_line (begins_with 42 first) (interpretation first (first ∷ more)) _ (interpretation_well first (first ∷ more))
    (either_line (begins_with 61 first) (barline_said first (first ∷ more)) (data_line (all_tokens (first ∷ more))) (barline_well first (first ∷ more))
    (data_well (all_tokens (first ∷ more)) (tokens_well (first ∷ more))))

line_well : (text : List ℕ) → IsWellLine (line_of text)
unfolding line_of
line_well text =
    either_line (is_heading text) (Heading (length (columns text))) _ tt (either_line (is_ending text) Ending (other_line (columns text)) tt (other_well (columns text)))

-- ---- lines without a fault, the last first

record AreSound (lines : List KernLine) : Type 0 where
  well : All IsWellLine lines
  fine : grid_of lines ≤ 61440
  narrow : length (columns_of lines) ≤ 16

both_none : (xs ys : List (Bool × KernWhat)) → first_fault (xs ++ ys) ≡ None → (first_fault xs ≡ None) × (first_fault ys ≡ None)
both_none [] ys none = (refl, none)
both_none (x ∷ xs) ys none = at x.0 none (both_none xs ys)
  where
    at : (b : Bool) → (if b then Some x.1 else first_fault (xs ++ ys)) ≡ None → (first_fault (xs ++ ys) ≡ None → (first_fault xs ≡ None) × (first_fault ys ≡ None))
        → ((if b then Some x.1 else first_fault xs) ≡ None) × (first_fault ys ≡ None)
    at true none rest = cc
    at false none rest = rest none

fine_grid : (grid : ℕ) (line : KernLine) → has_no_grid grid line ≡ false → grid_with grid (line_values line) ≤ 61440
unfolding has_no_grid
fine_grid grid line e = grind (arith, nat_tests)

still_narrow : (line : KernLine) (before : List KernLine) → HasWidth line (length (columns_of before)) → length (columns_of before) ≤ 16 → length (columns_of (line ∷ before)) ≤ 16
still_narrow (Heading count) before width narrow = let column : List Token = [] in omega (arith, width, length-replicate count column)
still_narrow (Signature signature) before width narrow = narrow
still_narrow Other before width narrow = narrow
still_narrow Ending before width narrow = narrow
still_narrow Barline before width narrow = omega (arith, narrow, length-map (columns_of before) (add_bar (announced before)))
still_narrow LastBarline before width narrow = narrow
still_narrow (Data tokens) before width narrow =
    omega (arith, narrow, length-map (zip tokens (columns_of before)) add_token, length-zip tokens (columns_of before))
still_narrow Unread before width narrow = narrow

one_more : (before : List KernLine) (text : List ℕ) → line_fault before text ≡ None → AreSound before → AreSound (line_of text ∷ before)
unfolding line_fault
one_more before text none sound =
    let line = line_of text in
    let grid = grid_of before in
    let bar = current_bar before in
    let next = announced before in
    let known = spines_of before in
    let parts = both_none (text_tests (stage_of before) (length (columns_of before)) text) (said_tests (stage_of before) grid bar next known line) none in
    let last = (is_misplaced bar known line, what.Place) ∷ (has_wrong_grace known line, what.Grace) ∷ (is_wrong_bar grid bar next known line, what.Bar) ∷ (has_wrong_tie known line, what.Tie) ∷ [] in
    let said = passes (is_unread (stage_of before) line, what.Token) ((has_no_grid grid line, what.Grid) ∷ last) parts.1 in
    let counted = passes (has_no_grid grid line, what.Grid) last said.1 in
    record {
      well = All-cons IsWellLine line before (line_well text) sound.well;
      fine = fine_grid grid line counted.0;
      narrow = still_narrow line before (wide (stage_of before) (length (columns_of before)) text line grid bar next known refl parts.0 parts.1) sound.narrow;
    }

abbrev IsReadTo : ℕ → List KernLine → Type 0
IsReadTo most lines = AreSound lines × (length lines ≤ most)

at_end_sound : (at : Stage) (number most : ℕ) (before lines : List KernLine) → AreSound before → length before ≤ most → at_end at number before ≡ Ok lines → IsReadTo most lines
at_end_sound stage.Over number most before lines sound few e = let same : before ≡ lines = cc in subst (IsReadTo most) same (sound, few)
at_end_sound stage.Head number most before lines sound few e = absurd (cc)
at_end_sound stage.Body number most before lines sound few e = absurd (cc)
at_end_sound stage.Last number most before lines sound few e = absurd (cc)

read_sound : (before : List KernLine) (number most : ℕ) (texts : List (List ℕ)) (lines : List KernLine) → AreSound before → length before + length texts ≤ most
    → read_from before number texts ≡ Ok lines → IsReadTo most lines
read_sound before number most [] lines sound few e = at_end_sound (stage_of before) number most before lines sound (omega (arith, few)) e
read_sound before number most (text ∷ texts) lines sound few e =
    skipped (is_skipped text) (line_fault before text) refl e (λ is. read_sound before (suc number) most texts lines sound (omega (arith, few)) is)
    (λ none is. read_sound (line_of text ∷ before) (suc number) most texts lines (one_more before text none sound) (omega (arith, few)) is)
  where
    skipped : (b : Bool) (o : Option KernWhat) → line_fault before text ≡ o
        → (if b then read_from before (suc number) texts else or_fault number o (read_from (line_of text ∷ before) (suc number) texts)) ≡ Ok lines
        → (read_from before (suc number) texts ≡ Ok lines → IsReadTo most lines)
        → (line_fault before text ≡ None → read_from (line_of text ∷ before) (suc number) texts ≡ Ok lines → IsReadTo most lines) → IsReadTo most lines
    skipped true o is e past next = past e
    skipped false None is e past next = next is e
    skipped false (Some w) is e past next = absurd (cc)

-- ---- the score

lines_few : (pieces : List (List ℕ)) → length (lines_of_pieces pieces) ≤ length pieces
lines_few [] = omega arith
lines_few ([] ∷ []) = omega arith
lines_few ((b ∷ bs) ∷ []) = omega arith
lines_few ([] ∷ next ∷ more) = omega (arith, lines_few (next ∷ more))
lines_few ((b ∷ bs) ∷ next ∷ more) = omega (arith, lines_few (next ∷ more))

sound_score : (lines : List KernLine) → AreSound lines → length lines < 2 ^ 32 → IsKernScore (score_columns lines)
sound_score lines sound few =
    let grid = grid_of lines in
    let cols = columns_of lines in
    record {
      some = grid_some lines sound.well;
      fine = sound.fine;
      narrow = subst (λ n. n ≤ 16) (sym (length-map cols reverse)) sound.narrow;
      on = All-map (IsColumnOn grid) reverse cols
          (All-weaker (IsColumnOn grid) (λ column. IsColumnOn grid (reverse column)) (λ column all. all_reversed (IsTokenOn grid) column all) cols (columns_on lines sound.well));
      short = All-map (λ c. length c < 2 ^ 32) reverse cols
          (All-weaker (IsShort (length lines)) (λ column. length (reverse column) < 2 ^ 32) (λ column s. omega (arith, s, length-reverse column, few)) cols (columns_short lines));
    }

no_lines : AreSound []
no_lines = record { well = All-nil IsWellLine; fine = omega arith; narrow = omega arith }

pub well_score : (text : List ℕ) (score : KernColumns) → length text ≤ 4294967294 → score_of text ≡ Ok score → IsKernScore score
well_score text score short e = at (read_text text) refl e
  where
    few : length (text_lines text) ≤ 4294967295
    few = omega (arith, short, lines_few (slice_split (λ b. b == 10) text), length-slice_split (λ b. b == 10) text, count_by-le-length (λ b. b == 10) text)

    at : (r : Result (List KernLine) KernFault) → read_text text ≡ r → scored r ≡ Ok score → IsKernScore score
    at (Err fault) is e = absurd (cc)
    at (Ok lines) is e =
        let (sound, within) = read_sound [] 1 4294967295 (text_lines text) lines no_lines (omega (arith, few)) is in
        let same : score_columns lines ≡ score = cc in
        subst IsKernScore same (sound_score lines sound (omega (arith, within)))
