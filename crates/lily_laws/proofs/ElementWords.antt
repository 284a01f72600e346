-- The words of an element: what stands between its spaces, with one after the last.
use Rattle.std.proofs.Common.{◌≡◌, ℕ, suc, ◌<◌, ◌==◌, ◌&&◌, Bool, true, false, not, List, [], ◌∷◌, ◌++◌, map, refl, sym, ap, ap₂, ◌∙◌, arith, append_assoc, append-nil}
use Rattle.std.specs.Prelude.{All, codes}
use Rattle.std.specs.List.{flat_map, join_with_byte, list_all}
use Rattle.std.proofs.lemmas.Bool.{and_from, and_parts}
use Rattle.std.proofs.lemmas.Bool.Decides.{nat_tests}
use Rattle.std.proofs.lemmas.Grind.{flat_map-append}
use Rattle.std.proofs.lemmas.List.Elements.{All-head, All-tail}
use Rattle.derivation.specs.WellSounded.{AreKeys}
use Rattle.score_words.specs.Keys.{rising_keys}
use Rattle.text_words.specs.Values.{IsWellValue}
use Rattle.text_words.proofs.TextSplits.{split_first, split_last}
use Rattle.text_words.proofs.TextTests.{all_append, all_weaker, graphic_no_space, graphic_prints, is_graphic, lacks, printing_no_newline}
use Rattle.score_words.proofs.SetKeys.{KeysRise, keys_rise, keys_set, set_with}
use Rattle.lily_writer.specs.Elements.{Element, element_text, elements_text, grace_group, lily_grace, note_value, rest_value, lily_short, lily_tie}
use Rattle.lily_writer.specs.Pitches.{pitches_text, lily_chord, lily_pitch, words}
use Rattle.lily_writer.specs.Values.{lily_value}
use Rattle.lily_writer.specs.Words.{is_letter, is_lily_pitch_byte}
use Rattle.lily_laws.proofs.Pitches.{is_pitch, pitch_is}
use Rattle.lily_laws.proofs.ValueTexts.{ending_graphic, ending_text, marks}

-- words with a space after each
abbrev pub spaced : List (List ℕ) → List ℕ
spaced ws = flat_map (λ w. w ++ 32 ∷ []) ws

-- ---- chords, with what stands after their pitches

-- the words of the pitches after the first
abbrev pub later_words : List ℕ → List (List ℕ) → List ℕ → List (List ℕ)
later_words p [] ending = (p ++ 62 ∷ ending) ∷ []
later_words p (q ∷ ps) ending = p ∷ later_words q ps ending

abbrev pub first_words : List ℕ → List (List ℕ) → List ℕ → List (List ℕ)
first_words p [] ending = (p ++ ending) ∷ []
first_words p (q ∷ ps) ending = (60 ∷ p) ∷ later_words q ps ending

abbrev pub pitch_words : List (List ℕ) → List ℕ → List (List ℕ)
pitch_words [] ending = []
pitch_words (p ∷ ps) ending = first_words p ps ending

abbrev pub chord_words : Bool → ℕ → List ℕ → List (List ℕ)
chord_words flats keys ending = pitch_words (map (lily_pitch flats) (rising_keys keys)) ending

later_spaced : (p : List ℕ) (ps : List (List ℕ)) (ending : List ℕ)
    → join_with_byte 32 (p ∷ ps) ++ (62 ∷ ending) ++ 32 ∷ [] ≡ spaced (later_words p ps ending)
later_spaced p [] ending = sym (append-nil (p ++ 62 ∷ ending ++ 32 ∷ []))
later_spaced p (q ∷ ps) ending =
    ap (λ xs. xs ++ 32 ∷ []) (append_assoc p (32 ∷ join_with_byte 32 (q ∷ ps)) (62 ∷ ending))
    ∙ append_assoc p (32 ∷ (join_with_byte 32 (q ∷ ps) ++ 62 ∷ ending)) (32 ∷ []) ∙ ap (λ xs. p ++ 32 ∷ xs) (later_spaced q ps ending)
    ∙ sym (append_assoc p (32 ∷ []) (spaced (later_words q ps ending)))

pub pitches_spaced : (p : List ℕ) (ps : List (List ℕ)) (ending : List ℕ)
    → pitches_text (p ∷ ps) ++ ending ++ 32 ∷ [] ≡ spaced (first_words p ps ending)
pitches_spaced p [] ending = sym (append-nil (p ++ ending ++ 32 ∷ []))
pitches_spaced p (q ∷ ps) ending =
    ap (λ xs. 60 ∷ (xs ++ 32 ∷ [])) (append_assoc (join_with_byte 32 (p ∷ q ∷ ps)) (62 ∷ []) ending)
    ∙ ap (λ xs. 60 ∷ (xs ++ 32 ∷ [])) (append_assoc p (32 ∷ join_with_byte 32 (q ∷ ps)) (62 ∷ ending))
    ∙ ap (λ xs. 60 ∷ xs) (append_assoc p (32 ∷ (join_with_byte 32 (q ∷ ps) ++ 62 ∷ ending)) (32 ∷ [])
    ∙ ap (λ xs. p ++ 32 ∷ xs) (later_spaced q ps ending))
    ∙ ap (λ xs. 60 ∷ xs) (sym (append_assoc p (32 ∷ []) (spaced (later_words q ps ending))))

-- ---- elements

-- what can be read of an element: chords have keys, and values can be written
abbrev pub IsSounding : Element → Type 0
IsSounding (grace_group chords) = All AreKeys chords
IsSounding (note_value keys value short tied) = AreKeys keys × IsWellValue value
IsSounding (rest_value value) = IsWellValue value

abbrev pub group_words : Bool → List ℕ → List (List ℕ)
group_words flats chords = flat_map (λ keys. chord_words flats keys (codes "8")) chords

abbrev pub element_words : Bool → Element → List (List ℕ)
element_words flats (grace_group chords) = codes "\\grace" ∷ codes "{" ∷ (group_words flats chords ++ codes "}" ∷ [])
element_words flats (note_value keys value short tied) = chord_words flats keys (ending_text value short tied)
element_words flats (rest_value value) = (114 ∷ ending_text value false false) ∷ []

-- a chord has some key
pub some_key : (keys : ℕ) → AreKeys keys → (k : ℕ) × (ks : List ℕ) × (rising_keys keys ≡ k ∷ ks)
some_key keys is = go (rising_keys keys) refl
  where
    go : (ks : List ℕ) → rising_keys keys ≡ ks → (k : ℕ) × (more : List ℕ) × (rising_keys keys ≡ k ∷ more)
    go [] e = let none : 0 ≡ keys = sym (ap (set_with 0) e) ∙ keys_set keys is.1 in absurd (omega (arith, none, is.0))
    go (k ∷ ks) e = (k, ks, e)

chord_spaced : (flats : Bool) (keys : ℕ) (ending : List ℕ) → AreKeys keys
    → lily_chord flats keys ++ ending ++ 32 ∷ [] ≡ spaced (chord_words flats keys ending)
chord_spaced flats keys ending is =
    let (k, ks, all) = some_key keys is in
    ap (λ list. pitches_text (map (lily_pitch flats) list) ++ ending ++ 32 ∷ []) all ∙ pitches_spaced (lily_pitch flats k) (map (lily_pitch flats) ks) ending
    ∙ sym (ap (λ list. spaced (pitch_words (map (lily_pitch flats) list) ending)) all)

group_spaced : (flats : Bool) (chords : List ℕ) → All AreKeys chords
    → flat_map (lily_grace flats) chords ≡ spaced (group_words flats chords)
group_spaced flats [] are = refl
group_spaced flats (keys ∷ chords) are =
    let eighth : List ℕ = codes "8" in
    ap₂ ◌++◌ (sym (append_assoc (lily_chord flats keys) eighth (32 ∷ []))
    ∙ chord_spaced flats keys eighth (All-head AreKeys keys chords are))
    (group_spaced flats chords (All-tail AreKeys keys chords are))
    ∙ sym (flat_map-append (λ w. w ++ 32 ∷ []) (chord_words flats keys eighth) (group_words flats chords))

element_spaced : (flats : Bool) (e : Element) → IsSounding e → element_text flats e ++ 32 ∷ [] ≡ spaced (element_words flats e)
element_spaced flats (grace_group chords) are =
    let opening : List ℕ = codes "\\grace { " in
    let closing : List ℕ = codes "}" in
    ap (λ xs. opening ++ xs ++ closing ++ 32 ∷ []) (group_spaced flats chords are)
    ∙ append_assoc (opening ++ spaced (group_words flats chords)) closing (32 ∷ [])
    ∙ append_assoc opening (spaced (group_words flats chords)) (closing ++ 32 ∷ [])
    ∙ ap (λ xs. opening ++ xs) (sym (flat_map-append (λ w. w ++ 32 ∷ []) (group_words flats chords) (closing ∷ [])))
element_spaced flats (note_value keys value short tied) (are, well) =
    ap (λ xs. xs ++ 32 ∷ [])
    (append_assoc (lily_chord flats keys ++ lily_value value) (lily_short short) (lily_tie tied)
    ∙ append_assoc (lily_chord flats keys) (lily_value value) (marks short tied))
    ∙ chord_spaced flats keys (ending_text value short tied) are
element_spaced flats (rest_value value) well =
    ap (λ xs. 114 ∷ (xs ++ 32 ∷ [])) (sym (append-nil (lily_value value)))
    ∙ sym (append-nil (114 ∷ (ending_text value false false ++ 32 ∷ [])))

pub elements_spaced : (flats : Bool) (es : List Element) → All IsSounding es
    → elements_text flats es ≡ spaced (flat_map (element_words flats) es)
elements_spaced flats [] are = refl
elements_spaced flats (e ∷ es) are =
    ap₂ ◌++◌ (element_spaced flats e (All-head IsSounding e es are)) (elements_spaced flats es (All-tail IsSounding e es are))
    ∙ sym (flat_map-append (λ w. w ++ 32 ∷ []) (element_words flats e) (flat_map (element_words flats) es))

-- ---- bytes of words are printed

pub pitch_byte_graphic : (b : ℕ) → is_lily_pitch_byte b ≡ true → is_graphic b ≡ true
pitch_byte_graphic b h = grind (arith, nat_tests)

pub pitch_bytes : (p : List ℕ) → is_pitch p ≡ true → list_all is_lily_pitch_byte p ≡ true
pitch_bytes [] h = refl
pitch_bytes (b ∷ bs) h = (and_parts (is_letter b && not (b == 114)) (list_all is_lily_pitch_byte (b ∷ bs)) h).1

pitch_graphic : (flats : Bool) (k : ℕ) → k < 128 → list_all is_graphic (lily_pitch flats k) ≡ true
pitch_graphic flats k within =
    all_weaker is_lily_pitch_byte is_graphic (lily_pitch flats k) pitch_byte_graphic (pitch_bytes (lily_pitch flats k) (pitch_is flats k within))

abbrev are_graphic : List (List ℕ) → Bool
are_graphic ws = list_all (list_all is_graphic) ws

later_graphic : (flats : Bool) (low k : ℕ) (ks : List ℕ) (ending : List ℕ) → KeysRise low (k ∷ ks) → list_all is_graphic ending ≡ true
    → are_graphic (later_words (lily_pitch flats k) (map (lily_pitch flats) ks) ending) ≡ true
later_graphic flats low k [] ending (above, within, rise) all =
    and_from _ true (all_append is_graphic (lily_pitch flats k) (62 ∷ ending) (pitch_graphic flats k within) all) refl
later_graphic flats low k (j ∷ ks) ending (above, within, rise) all =
    and_from _ _ (pitch_graphic flats k within) (later_graphic flats (suc k) j ks ending rise all)

chord_graphic : (flats : Bool) (ks : List ℕ) (ending : List ℕ) → KeysRise 0 ks → list_all is_graphic ending ≡ true
    → are_graphic (pitch_words (map (lily_pitch flats) ks) ending) ≡ true
chord_graphic flats [] ending rise all = refl
chord_graphic flats (k ∷ []) ending (above, within, rise) all =
    and_from _ true (all_append is_graphic (lily_pitch flats k) ending (pitch_graphic flats k within) all) refl
chord_graphic flats (k ∷ j ∷ ks) ending (above, within, rise) all =
    and_from _ _ (pitch_graphic flats k within) (later_graphic flats (suc k) j ks ending rise all)

group_graphic : (flats : Bool) (chords : List ℕ) → are_graphic (group_words flats chords) ≡ true
group_graphic flats [] = refl
group_graphic flats (keys ∷ chords) =
    all_append (list_all is_graphic) (chord_words flats keys (codes "8")) (group_words flats chords)
    (chord_graphic flats (rising_keys keys) (codes "8") (keys_rise keys) refl)
    (group_graphic flats chords)

element_graphic : (flats : Bool) (e : Element) → are_graphic (element_words flats e) ≡ true
element_graphic flats (grace_group chords) = all_append (list_all is_graphic) (group_words flats chords) (codes "}" ∷ [])
    (group_graphic flats chords) refl
element_graphic flats (note_value keys value short tied) =
    chord_graphic flats (rising_keys keys) (ending_text value short tied) (keys_rise keys) (ending_graphic value short tied)
element_graphic flats (rest_value value) = and_from _ true (ending_graphic value false false) refl

pub elements_graphic : (flats : Bool) (es : List Element) → are_graphic (flat_map (element_words flats) es) ≡ true
elements_graphic flats [] = refl
elements_graphic flats (e ∷ es) =
    all_append (list_all is_graphic) (element_words flats e) (flat_map (element_words flats) es) (element_graphic flats e)
    (elements_graphic flats es)

-- ---- words between spaces

pub words_split : (ws : List (List ℕ)) (end : List ℕ) → are_graphic ws ≡ true → lacks 32 end ≡ true
    → words (spaced ws ++ end) ≡ ws ++ end ∷ []
words_split [] end all none = split_last 32 end none
words_split (w ∷ ws) end all none =
    let parts = and_parts (list_all is_graphic w) (are_graphic ws) all in
    let free : lacks 32 w ≡ true = all_weaker is_graphic (λ b. not (b == 32)) w graphic_no_space parts.0 in
    ap words (append_assoc (w ++ 32 ∷ []) (spaced ws) end ∙ append_assoc w (32 ∷ []) (spaced ws ++ end))
    ∙ split_first 32 w (spaced ws ++ end) free
    ∙ ap (λ rest. w ∷ rest) (words_split ws end parts.1 none)

-- and none of them has a newline
pub spaced_in_line : (ws : List (List ℕ)) → are_graphic ws ≡ true → lacks 10 (spaced ws) ≡ true
spaced_in_line [] all = refl
spaced_in_line (w ∷ ws) all =
    let parts = and_parts (list_all is_graphic w) (are_graphic ws) all in
    let free : lacks 10 w ≡ true = all_weaker is_graphic (λ b. not (b == 10)) w graphic_no_newline parts.0 in
    all_append (λ b. not (b == 10)) (w ++ 32 ∷ []) (spaced ws) (all_append (λ b. not (b == 10)) w (32 ∷ []) free refl)
    (spaced_in_line ws parts.1)
  where
    graphic_no_newline : (b : ℕ) → is_graphic b ≡ true → not (b == 10) ≡ true
    graphic_no_newline b h = printing_no_newline b (graphic_prints b h)
