-- How the lines of a staff begin: no bar is taken for a change or for the end.
use Rattle.std.proofs.Common.{◌≡◌, ℕ, ◌==◌, ◌&&◌, ◌||◌, not, Bool, true, false, List, [], ◌∷◌, ◌++◌, map, refl, sym, ap, ◌∙◌, subst, arith}
use Rattle.std.specs.Prelude.{All, codes, nat_eq}
use Rattle.std.specs.List.{starts_with}
use Rattle.std.specs.Str.{bytes_eq}
use Rattle.std.proofs.lemmas.Bool.{and_parts, false≢true}
use Rattle.std.proofs.lemmas.Bool.Decides.{nat_tests}
use Rattle.std.proofs.lemmas.List.Elements.{All-head}
use Rattle.derivation.specs.WellSounded.{AreKeys}
use Rattle.text_words.specs.Lines.{begins_with}
use Rattle.score_words.proofs.SetKeys.{KeysRise, keys_rise}
use Rattle.lily_writer.specs.Elements.{Element, element_text, elements_text, grace_group, note_value, rest_value, lily_short, lily_tie}
use Rattle.lily_writer.specs.Pitches.{pitches_text, lily_chord, lily_pitch}
use Rattle.lily_writer.specs.Staves.{staff_bar}
use Rattle.lily_writer.specs.Values.{lily_value}
use Rattle.lily_writer.specs.Words.{is_letter}
use Rattle.lily_laws.proofs.ElementWords.{IsSounding, some_key}
use Rattle.lily_laws.proofs.Pitches.{is_pitch, pitch_is}

-- it begins with no brace, and where it begins with a backslash a g follows
abbrev pub begins_bar : List ℕ → Bool
begins_bar [] = false
begins_bar (b ∷ bs) = not (b == 125) && (not (b == 92) || begins_with 103 bs)

begins_more : (xs ys : List ℕ) → begins_bar xs ≡ true → begins_bar (xs ++ ys) ≡ true
begins_more [] ys h = absurd (false≢true h)
begins_more (b ∷ []) ys h = go (b == 125) (b == 92) h
  where
    go : (c d : Bool) → (not c && (not d || false)) ≡ true → (not c && (not d || begins_with 103 ys)) ≡ true
    go true d h = h
    go false true h = absurd (false≢true h)
    go false false h = refl
begins_more (b ∷ c ∷ xs) ys h = h

pitch_begins : (p : List ℕ) → is_pitch p ≡ true → begins_bar p ≡ true
pitch_begins [] h = absurd (false≢true h)
pitch_begins (b ∷ bs) h = letter b bs (and_parts (is_letter b) (not (b == 114)) (and_parts (is_letter b && not (b == 114)) _ h).0).0
  where
    letter : (b : ℕ) (bs : List ℕ) → is_letter b ≡ true → begins_bar (b ∷ bs) ≡ true
    letter b bs h =
        let no_brace : (b == 125) ≡ false = grind (arith, nat_tests, h) in
        let no_slash : (b == 92) ≡ false = grind (arith, nat_tests, h) in
        rw (no_brace, no_slash) refl

chord_begins : (flats : Bool) (keys : ℕ) → AreKeys keys → begins_bar (lily_chord flats keys) ≡ true
chord_begins flats keys are =
    let (k, ks, all) = some_key keys are in
    ap (λ list. begins_bar (pitches_text (map (lily_pitch flats) list))) all ∙ go k ks (subst (KeysRise 0) all (keys_rise keys))
  where
    go : (k : ℕ) (ks : List ℕ) → KeysRise 0 (k ∷ ks) → begins_bar (pitches_text (map (lily_pitch flats) (k ∷ ks))) ≡ true
    go k [] up = pitch_begins (lily_pitch flats k) (pitch_is flats k up.1)
    go k (j ∷ ks) up = refl

element_begins : (flats : Bool) (e : Element) → IsSounding e → begins_bar (element_text flats e) ≡ true
element_begins flats (grace_group chords) are = refl
element_begins flats (note_value keys value short tied) (are, well) =
    begins_more (lily_chord flats keys ++ lily_value value ++ lily_short short) (lily_tie tied)
    (begins_more (lily_chord flats keys ++ lily_value value) (lily_short short)
    (begins_more (lily_chord flats keys) (lily_value value) (chord_begins flats keys are)))
element_begins flats (rest_value value) well = refl

pub bar_begins : (flats : Bool) (elements : List Element) → All IsSounding elements → begins_bar (staff_bar flats elements) ≡ true
bar_begins flats [] are = refl
bar_begins flats (e ∷ es) are =
    begins_more (elements_text flats (e ∷ es)) (codes "|")
    (begins_more (element_text flats e ++ codes " ") (elements_text flats es)
    (begins_more (element_text flats e) (codes " ") (element_begins flats e (All-head IsSounding e es are))))

-- ---- so it is no other line

pub record IsBarText (line : List ℕ) : Type 0 where
  pub end : bytes_eq line (codes "}") ≡ false
  pub key : starts_with nat_eq line (codes "\\key ") ≡ false
  pub tempo : starts_with nat_eq line (codes "\\tempo ") ≡ false
  pub time : starts_with nat_eq line (codes "\\time ") ≡ false

other_byte : (b : ℕ) (bs : List ℕ) → (b == 125) ≡ false → (b == 92) ≡ false → IsBarText (b ∷ bs)
other_byte b bs brace slash =
    let other : (92 == b) ≡ false = grind (arith, nat_tests, slash) in
    record { end = rw brace refl; key = rw other refl; tempo = rw other refl; time = rw other refl }

slash_g : (bs : List ℕ) → begins_with 103 bs ≡ true → IsBarText (92 ∷ bs)
slash_g [] h = absurd (false≢true h)
slash_g (c ∷ bs) h =
    let g : 103 ≡ c = grind (arith, nat_tests, h) in
    subst (λ c. IsBarText (92 ∷ c ∷ bs)) g (record { end = refl; key = refl; tempo = refl; time = refl })

pub is_bar_text : (line : List ℕ) → begins_bar line ≡ true → IsBarText line
is_bar_text [] h = absurd (false≢true h)
is_bar_text (b ∷ bs) h = go (b == 125) refl (b == 92) refl (and_parts (not (b == 125)) (not (b == 92) || begins_with 103 bs) h)
  where
    go : (c : Bool) → (b == 125) ≡ c → (d : Bool) → (b == 92) ≡ d
        → (not (b == 125) ≡ true) × ((not (b == 92) || begins_with 103 bs) ≡ true) → IsBarText (b ∷ bs)
    go true e d f parts = absurd (false≢true (sym (ap not e) ∙ parts.0))
    go false e false f parts = other_byte b bs e f
    go false e true f parts =
        let slash : 92 ≡ b = grind (arith, nat_tests, f) in
        let g : begins_with 103 bs ≡ true = sym (ap (λ d. not d || begins_with 103 bs) f) ∙ parts.1 in
        subst (λ b. IsBarText (b ∷ bs)) slash (slash_g bs g)
