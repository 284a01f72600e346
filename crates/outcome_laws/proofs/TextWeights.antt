-- The chords of a **kern text have no more keys than the text has bytes.
use Rattle.std.proofs.Common.{◌≡◌, ◌+◌, ◌^◌, ◌≤◌, ◌==◌, ℕ, zero, suc, Bool, true, false, List, [], ◌∷◌, length, map, reverse, refl, subst, arith, Option, Some, None, Result, Ok, Err}
use Rattle.std.specs.Prelude.{IfSome, codes, cond, drop, if◌then◌else◌, replicate}
use Rattle.std.specs.Char.{is_ascii_digit}
use Rattle.std.specs.List.{list_all, list_any, onto_first, slice_split, zip}
use Rattle.std.specs.Option.{option_map}
use Rattle.durations.specs.declared.value.Value.{Value}
use Rattle.kern_laws.proofs.TokenStyles.{Note}
use Rattle.kern_laws.specs.Lines.{KernLine}
use Rattle.kern_reader.specs.Columns.{add_bar, add_token, announced, columns_of, stage_of}
use Rattle.kern_reader.specs.Faults.{line_fault}
use Rattle.kern_reader.specs.Lines.{all_are, barline_said, data_line, interpretation, is_ending, is_heading, is_refused_word, begins_signature, line_of, other_line, signature_line, signature_of}
use Rattle.kern_reader.specs.Outcome.{at_end, or_fault, read_from, score_of, scored}
use Rattle.kern_reader.specs.Score.{KernColumns, score_columns}
use Rattle.text_words.specs.Lines.{begins_with, text_lines, lines_of_pieces}
use Rattle.kern_reader.specs.Text.{columns, is_skipped}
use Rattle.text_words.specs.Steps.{◌>>=◌}
use Rattle.kern_reader.specs.Tokens.{after_value, all_notes, all_tokens, chord_of_notes, chord_token, keys_with, note_of, marks_of, marks_part, pitch_key, pitch_part, rest_of, rising_notes, token_chord, token_of, value_of, value_part, valued_note}
use Rattle.kern_reader.specs.declared.fault.KernFault.{KernFault}
use Rattle.kern_reader.specs.declared.fault.KernWhat.{KernWhat}
use Rattle.kern_reader.specs.declared.token.TieMark.{TieMark}
use Rattle.text_words.specs.declared.time_signature.TimeSignature.{TimeSignature}
use Rattle.kern_reader.specs.declared.token.Token.{Token}
use Rattle.kern_reader.specs.declared.token.Token.TheVariants as token
use Rattle.std.specs.Str.{bytes_eq}
use Rattle.outcome_laws.proofs.KeyCounts.{fold_count, key_count, one_key, total, total_reverse}

-- how many keys a token has
abbrev pub token_keys : Token → ℕ
token_keys (token.Bar signature) = 0
token_keys token.Null = 0
token_keys (token.Rest value) = 0
token_keys (token.Grace keys) = key_count keys
token_keys (token.Chord writing keys) = key_count keys

-- ---- what is cut is no longer than the whole

abbrev lengths : List (List ℕ) → ℕ
lengths texts = total length texts

onto_longer : (b : ℕ) (texts : List (List ℕ)) → lengths (onto_first b texts) ≤ suc (lengths texts)
onto_longer b [] = omega arith
onto_longer b (text ∷ texts) = omega arith

split_lengths : (p : ℕ → Bool) (text : List ℕ) → lengths (slice_split p text) ≤ length text
split_lengths p [] = omega arith
split_lengths p (b ∷ text) = go (p b) (split_lengths p text)
  where
    go : (t : Bool) → lengths (slice_split p text) ≤ length text → lengths (cond t ([] ∷ slice_split p text) (onto_first b (slice_split p text))) ≤ suc (length text)
    go true rest = omega (arith, rest)
    go false rest = let more = onto_longer b (slice_split p text) in omega (arith, rest, more)

line_lengths : (pieces : List (List ℕ)) → lengths (lines_of_pieces pieces) ≤ lengths pieces
line_lengths [] = omega arith
line_lengths ([] ∷ []) = omega arith
line_lengths ((b ∷ bytes) ∷ []) = omega arith
line_lengths ([] ∷ next ∷ more) = let rest = line_lengths (next ∷ more) in omega (arith, rest)
line_lengths ((b ∷ bytes) ∷ next ∷ more) = let rest = line_lengths (next ∷ more) in omega (arith, rest)

-- ---- a token

-- the chord of a note has the keys that it is given, whether it is a grace chord or not
abbrev IsPlain : Note → Type 0
IsPlain note = (keys : ℕ) → token_keys (chord_token note.style keys) ≡ key_count keys

some_mapped : {X Y : Type 0} (P : Y → Type 0) (f : X → Y) (o : Option X) → ((x : X) → P (f x)) → IfSome (option_map f o) P
some_mapped P f None each = tt
some_mapped P f (Some x) each = each x

some_if : {Y : Type 0} (P : Y → Type 0) (b : Bool) (x y : Option Y) → IfSome x P → IfSome y P → IfSome (if b then x else y) P
some_if P true x y h k = h
some_if P false x y h k = k

valued_plain : (opens : Bool) (text : List ℕ) → IfSome (valued_note opens text) IsPlain
unfolding valued_note
valued_plain opens text = go (value_of (value_part text)) refl (pitch_key (pitch_part text)) refl (marks_of (marks_part text)) refl
  where
    go : (a : Option Value) → value_of (value_part text) ≡ a → (b : Option ℕ) → pitch_key (pitch_part text) ≡ b → (c : Option (TieMark × Bool)) → marks_of (marks_part text) ≡ c
        → IfSome (valued_note opens text) IsPlain
    go None is b k c m = rw is tt
    go (Some value) is None k c m = rw is (rw k tt)
    go (Some value) is (Some key) k None m = rw is (rw k (rw m tt))
    go (Some value) is (Some key) k (Some marks) m = rw is (rw k (rw m (λ keys. refl)))

note_plain : (text : List ℕ) → IfSome (note_of text) IsPlain
unfolding note_of
note_plain [] = tt
note_plain (b ∷ text) =
    some_if IsPlain (b == 113) _ _ (some_mapped IsPlain _ (pitch_key text) (λ key keys. refl))
    (some_if IsPlain (b == 91) _ _ (valued_plain true text) (valued_plain false (b ∷ text)))

-- each note is written with a byte at least
some_byte : (text : List ℕ) (note : Note) → note_of text ≡ Some note → 1 ≤ length text
unfolding note_of
some_byte [] note e = absurd (cc)
some_byte (b ∷ text) note e = omega arith

abbrev ArePlain : List Note → Type 0
ArePlain [] = Unit {0}
ArePlain (note ∷ notes) = IsPlain note × ArePlain notes

notes_few : (texts : List (List ℕ)) (notes : List Note) → all_notes texts ≡ Some notes → (length notes ≤ lengths texts) × ArePlain notes
notes_few [] notes e = let none : [] ≡ notes = cc in subst (λ (ns : List Note). (length ns ≤ 0) × ArePlain ns) none (omega arith, tt)
notes_few (text ∷ texts) notes e = by (note_of text) refl (all_notes texts) (notes_few texts) refl e
  where
    by : (o : Option Note) → note_of text ≡ o → (q : Option (List Note)) → ((others : List Note) → all_notes texts ≡ Some others → (length others ≤ lengths texts) × ArePlain others)
        → all_notes texts ≡ q → (o >>= λ note. option_map (λ notes. note ∷ notes) q) ≡ Some notes → (length notes ≤ lengths (text ∷ texts)) × ArePlain notes
    by None is q rest later e = absurd (cc)
    by (Some note) is None rest later e = absurd (cc)
    by (Some note) is (Some others) rest later e =
        let some = some_byte text note is in
        let few = rest others later in
        let short = few.0 in
        let plain = subst (λ (o : Option Note). IfSome o IsPlain) is (note_plain text) in
        let same : note ∷ others ≡ notes = cc in
        subst (λ (ns : List Note). (length ns ≤ lengths (text ∷ texts)) × ArePlain ns) same (omega (arith, some, short), (plain, few.1))

notes_total : (notes : List Note) → total (λ (note : Note). key_count (2 ^ note.key)) notes ≤ length notes
notes_total [] = omega arith
notes_total (note ∷ notes) = let own = one_key note.key in let rest = notes_total notes in omega (arith, own, rest)

chord_few : (notes : List Note) (t : Token) → ArePlain notes → chord_of_notes notes ≡ Some t → token_keys t ≤ length notes
chord_few [] t plain e = absurd (cc)
chord_few (note ∷ notes) t plain e = go (rising_notes note notes) e
  where
    go : (b : Bool) → (if b then Some (chord_token note.style (keys_with (2 ^ note.key) notes)) else None) ≡ Some t → token_keys t ≤ length (note ∷ notes)
    go true e =
        let same : chord_token note.style (keys_with (2 ^ note.key) notes) ≡ t = cc in
        let first = one_key note.key in
        let folded : key_count (keys_with (2 ^ note.key) notes) ≤ key_count (2 ^ note.key) + total (λ (n : Note). key_count (2 ^ n.key)) notes =
        fold_count (λ (n : Note). 2 ^ n.key) (2 ^ note.key) notes in
        let rest = notes_total notes in
        let is = plain.0 (keys_with (2 ^ note.key) notes) in
        subst (λ x. token_keys x ≤ length (note ∷ notes)) same (omega (arith, first, folded, rest, is))
    go false e = absurd (cc)

notes_token : (text : List ℕ) (t : Token) → token_chord text ≡ Some t → token_keys t ≤ length text
unfolding token_chord
notes_token text t e = by_chord (all_notes (slice_split (λ b. b == 32) text)) refl e
  where
    by_chord : (o : Option (List Note)) → all_notes (slice_split (λ b. b == 32) text) ≡ o → (o >>= chord_of_notes) ≡ Some t → token_keys t ≤ length text
    by_chord None is e = absurd (cc)
    by_chord (Some notes) is e =
        let few = notes_few (slice_split (λ b. b == 32) text) notes is in
        let count = few.0 in
        let short = split_lengths (λ b. b == 32) text in
        let own = chord_few notes t few.1 e in
        omega (arith, count, short, own)

token_few : (text : List ℕ) (t : Token) → token_of text ≡ Some t → token_keys t ≤ length text
unfolding token_of
token_few text t e = go (bytes_eq text (codes ".")) (bytes_eq (after_value text) (codes "r")) e
  where
    by_value : (o : Option Value) → option_map (λ value. token.Rest value) o ≡ Some t → token_keys t ≤ length text
    by_value None e = absurd (cc)
    by_value (Some value) e = let same : token.Rest value ≡ t = cc in subst (λ x. token_keys x ≤ length text) same (omega arith)

    go : (a b : Bool) → (if a then Some token.Null else if b then rest_of (value_part text) else token_chord text) ≡ Some t → token_keys t ≤ length text
    go true b e = let same : token.Null ≡ t = cc in subst (λ x. token_keys x ≤ length text) same (omega arith)
    go false true e = by_value (value_of (value_part text)) e
    go false false e = notes_token text t e

-- ---- the tokens of a line

abbrev pub tokens_keys : List Token → ℕ
tokens_keys tokens = total token_keys tokens

tokens_few : (texts : List (List ℕ)) (tokens : List Token) → all_tokens texts ≡ Some tokens → tokens_keys tokens ≤ lengths texts
tokens_few [] tokens e = let none : [] ≡ tokens = cc in subst (λ ts. tokens_keys ts ≤ 0) none (omega arith)
tokens_few (text ∷ texts) tokens e = by (token_of text) refl (all_tokens texts) (tokens_few texts) refl e
  where
    by : (o : Option Token) → token_of text ≡ o → (q : Option (List Token)) → ((others : List Token) → all_tokens texts ≡ Some others → tokens_keys others ≤ lengths texts) → all_tokens texts ≡ q → (o >>= λ t. option_map (λ ts. t ∷ ts) q) ≡ Some tokens
        → tokens_keys tokens ≤ lengths (text ∷ texts)
    by None is q rest later e = absurd (cc)
    by (Some t) is None rest later e = absurd (cc)
    by (Some t) is (Some others) rest later e =
        let own = token_few text t is in
        let few = rest others later in
        let same : t ∷ others ≡ tokens = cc in
        subst (λ ts. tokens_keys ts ≤ lengths (text ∷ texts)) same (omega (arith, own, few))

-- ---- columns

abbrev pub columns_keys : List (List Token) → ℕ
columns_keys columns = total tokens_keys columns

no_columns : (n : ℕ) → columns_keys (replicate n []) ≡ 0
no_columns zero = refl
no_columns (suc n) = let rest = no_columns n in omega (arith, rest)

tokens_added : (tokens : List Token) (columns : List (List Token)) → columns_keys (map add_token (zip tokens columns)) ≤ tokens_keys tokens + columns_keys columns
tokens_added [] columns = omega arith
tokens_added (t ∷ tokens) [] = omega arith
tokens_added (t ∷ tokens) (column ∷ columns) = let rest = tokens_added tokens columns in omega (arith, rest)

bars_added : (o : Option TimeSignature) (columns : List (List Token)) → columns_keys (map (add_bar o) columns) ≡ columns_keys columns
bars_added o [] = refl
bars_added None (column ∷ columns) = let rest = bars_added None columns in omega (arith, rest)
bars_added (Some signature) (column ∷ columns) = let rest = bars_added (Some signature) columns in omega (arith, rest)

-- ---- a line

-- a line that ends what is read is the last of it
abbrev EndsItself : List KernLine → Type 0
EndsItself before = (number : ℕ) (lines : List KernLine) → at_end (stage_of before) number before ≡ Ok lines → before ≡ lines

-- a line adds at most so many keys to the columns
record IsLight (n : ℕ) (line : KernLine) : Type 0 where
  adds : (before : List KernLine) → columns_keys (columns_of (line ∷ before)) ≤ columns_keys (columns_of before) + n
  ends : (before : List KernLine) → EndsItself (line ∷ before)

lighter : (m n : ℕ) (line : KernLine) → m ≤ n → IsLight m line → IsLight n line
lighter m n line few light = record { adds = λ before. (let own = light.adds before in omega (arith, own, few)); ends = light.ends }

-- whichever of two it is
light_if : (n : ℕ) (b : Bool) (x y : KernLine) → IsLight n x → IsLight n y → IsLight n (if b then x else y)
light_if n true x y h k = h
light_if n false x y h k = k

light_unread : (n : ℕ) → IsLight n (data_line None)
light_unread n = record { adds = λ before. omega arith; ends = λ before number lines e. absurd (cc) }

light_signature : (n : ℕ) (o : Option TimeSignature) → IsLight n (signature_line o)
light_signature n None = light_unread n
light_signature n (Some signature) = record { adds = λ before. omega arith; ends = λ before number lines e. absurd (cc) }

light_interpretation : (n : ℕ) (first : List ℕ) (texts : List (List ℕ)) → IsLight n (interpretation first texts)
light_interpretation n first texts =
    light_if n (list_any is_refused_word texts) _ _ (light_unread n)
    (light_if n (list_any begins_signature texts) _ _ (light_if n (all_are first texts) _ _ (light_signature n (signature_of first)) (light_unread n))
    record { adds = λ before. omega arith; ends = λ before number lines e. absurd (cc) })

light_barline : (n : ℕ) (first : List ℕ) (texts : List (List ℕ)) → IsLight n (barline_said first texts)
light_barline n first texts =
    light_if n (all_are first texts) _ _
    (light_if n (bytes_eq first (codes "==")) _ _ record { adds = λ before. omega arith; ends = λ before number lines e. absurd (cc) }
    (light_if n (list_all is_ascii_digit (drop 1 first)) _ _
    record { adds = λ before. (let same = bars_added (announced before) (columns_of before) in omega (arith, same)); ends = λ before number lines e. absurd (cc) }
    (light_unread n)))
    (light_unread n)

light_data : (texts : List (List ℕ)) (o : Option (List Token)) → all_tokens texts ≡ o → IsLight (lengths texts) (data_line o)
light_data texts None is = light_unread (lengths texts)
light_data texts (Some tokens) is = record {
  adds = λ before. (let added = tokens_added tokens (columns_of before) in let few = tokens_few texts tokens is in omega (arith, added, few));
  ends = λ before number lines e. absurd (cc);
}

light_other : (texts : List (List ℕ)) → IsLight (lengths texts) (other_line texts)
unfolding other_line
light_other [] = light_unread (lengths [])
light_other (first ∷ more) =
    light_if (lengths (first ∷ more)) (begins_with 42 first) _ _ (light_interpretation (lengths (first ∷ more)) first (first ∷ more))
    (light_if (lengths (first ∷ more)) (begins_with 61 first) _ _ (light_barline (lengths (first ∷ more)) first (first ∷ more))
    (light_data (first ∷ more) (all_tokens (first ∷ more)) refl))

light_line : (text : List ℕ) → IsLight (length text) (line_of text)
unfolding line_of
light_line text =
    light_if (length text) (is_heading text) _ _
    record { adds = λ before. (let none = no_columns (length (columns text)) in omega (arith, none)); ends = λ before number lines e. absurd (cc) }
    (light_if (length text) (is_ending text) _ _ record { adds = λ before. omega arith; ends = λ before number lines e. cc }
    (lighter (lengths (columns text)) (length text) _ (split_lengths (λ b. b == 9) text) (light_other (columns text))))

-- ---- all lines

read_few : (before : List KernLine) → EndsItself before → (number : ℕ) (texts : List (List ℕ)) (lines : List KernLine) → read_from before number texts ≡ Ok lines
    → columns_keys (columns_of lines) ≤ columns_keys (columns_of before) + lengths texts
read_few before ends number [] lines e =
    subst (λ (ls : List KernLine). columns_keys (columns_of ls) ≤ columns_keys (columns_of before) + 0) (ends number lines e) (omega arith)
read_few before ends number (text ∷ texts) lines e =
    go (is_skipped text) (line_fault before text) (read_few before ends (suc number) texts lines)
    (read_few (line_of text ∷ before) ((light_line text).ends before) (suc number) texts lines) e
  where
    go : (b : Bool) (o : Option KernWhat) → (read_from before (suc number) texts ≡ Ok lines → columns_keys (columns_of lines) ≤ columns_keys (columns_of before) + lengths texts)
        → (read_from (line_of text ∷ before) (suc number) texts ≡ Ok lines → columns_keys (columns_of lines) ≤ columns_keys (columns_of (line_of text ∷ before)) + lengths texts)
        → (if b then read_from before (suc number) texts else or_fault number o (read_from (line_of text ∷ before) (suc number) texts)) ≡ Ok lines
        → columns_keys (columns_of lines) ≤ columns_keys (columns_of before) + lengths (text ∷ texts)
    go true o skipped said e = let few = skipped e in omega (arith, few)
    go false None skipped said e = let few = said e in let own = (light_line text).adds before in omega (arith, few, own)
    go false (Some what) skipped said e = absurd (cc)

reversed_keys : (column : List Token) → tokens_keys (reverse column) ≡ tokens_keys column
reversed_keys column = total_reverse token_keys column

reversed_columns : (columns : List (List Token)) → columns_keys (map reverse columns) ≡ columns_keys columns
reversed_columns [] = refl
reversed_columns (column ∷ columns) = let own = reversed_keys column in let rest = reversed_columns columns in omega (arith, own, rest)

pub text_keys : (text : List ℕ) (score : KernColumns) → score_of text ≡ Ok score → columns_keys score.columns ≤ length text
text_keys text score e = go (read_from [] 1 (text_lines text)) refl e
  where
    go : (r : Result (List KernLine) KernFault) → read_from [] 1 (text_lines text) ≡ r → scored r ≡ Ok score → columns_keys score.columns ≤ length text
    go (Err fault) is e = absurd (cc)
    go (Ok lines) is e =
        let read = read_few [] (λ number lines e. absurd (cc)) 1 (text_lines text) lines is in
        let pieces = line_lengths (slice_split (λ b. b == 10) text) in
        let short = split_lengths (λ b. b == 10) text in
        let turned = reversed_columns (columns_of lines) in
        let same : score_columns lines ≡ score = cc in
        subst (λ (s : KernColumns). columns_keys s.columns ≤ length text) same (omega (arith, read, pieces, short, turned))
