-- Chords are read as they are written.
use Rattle.std.proofs.Common.{◌≡◌, ℕ, suc, ◌^◌, ◌<◌, ◌==◌, true, not, List, [], ◌∷◌, ◌++◌, map, refl, sym, ap, ◌∙◌, arith, bit_or, append-nil}
use Rattle.std.specs.Prelude.{Some, None, if◌then◌else◌, nat_lt}
use Rattle.std.specs.List.{join_with_byte, list_all}
use Rattle.std.specs.Option.{option_map}
use Rattle.std.proofs.lemmas.Bool.{and_from}
use Rattle.std.proofs.lemmas.Bool.Decides.{nat_tests}
use Rattle.derivation.specs.WellSounded.{AreKeys}
use Rattle.kern_writer.specs.Tokens.{chord_text}
use Rattle.score_words.specs.Keys.{rising_keys}
use Rattle.text_words.specs.Steps.{◌>>=◌}
use Rattle.kern_reader.specs.Tokens.{all_notes, token_chord, chord_of_notes, chord_token, follows, keys_with, note_of, rising_notes, same_style}
use Rattle.text_words.proofs.TextSplits.{split_joined}
use Rattle.text_words.proofs.TextTests.{all_joined, all_weaker, graphic_no_space, graphic_prints, is_graphic, is_printing, lacks}
use Rattle.score_words.proofs.SetKeys.{KeysRise, keys_rise, keys_set, or_none, set_with}
use Rattle.kern_laws.proofs.TokenStyles.{Style, note_at}

-- each key's text is read as its note
abbrev pub AreRead : Style → (ℕ → List ℕ) → Type 0
AreRead s text = (k : ℕ) → k < 128 → note_of (text k) ≡ Some (note_at s k)

abbrev pub AreGraphic : (ℕ → List ℕ) → Type 0
AreGraphic text = (k : ℕ) → k < 128 → list_all is_graphic (text k) ≡ true

notes_read : (s : Style) (text : ℕ → List ℕ) (low : ℕ) (ks : List ℕ) → AreRead s text → KeysRise low ks
    → all_notes (map text ks) ≡ Some (map (note_at s) ks)
notes_read s text low [] read h = refl
notes_read s text low (k ∷ ks) read h =
    ap (λ o. o >>= λ note. option_map (λ notes. note ∷ notes) (all_notes (map text ks))) (read k h.1)
    ∙ ap (λ o. option_map (λ notes. note_at s k ∷ notes) o) (notes_read s text (suc k) ks read h.2)

notes_rise : (s : Style) (k : ℕ) (ks : List ℕ) → same_style s s ≡ true → KeysRise (suc k) ks → rising_notes (note_at s k) (map (note_at s) ks) ≡ true
notes_rise s k [] same h = refl
notes_rise s k (j ∷ ks) same h =
    let above : nat_lt k j ≡ true = let lt : k < j = omega (arith, h.0) in grind (arith, nat_tests) in
    and_from (follows (note_at s k) (note_at s j)) (rising_notes (note_at s j) (map (note_at s) ks))
    (and_from (same_style s s) (nat_lt k j) same above) (notes_rise s j ks same h.2)

notes_set : (s : Style) (keys : ℕ) (ks : List ℕ) → keys_with keys (map (note_at s) ks) ≡ set_with keys ks
notes_set s keys [] = refl
notes_set s keys (k ∷ ks) = notes_set s (bit_or keys (2 ^ k)) ks

texts_graphic : (text : ℕ → List ℕ) (low : ℕ) (ks : List ℕ) → AreGraphic text → KeysRise low ks → list_all (list_all is_graphic) (map text ks) ≡ true
texts_graphic text low [] graphic h = refl
texts_graphic text low (k ∷ ks) graphic h =
    and_from (list_all is_graphic (text k)) (list_all (list_all is_graphic) (map text ks)) (graphic k h.1) (texts_graphic text (suc k) ks graphic h.2)

no_spaces : (text : List ℕ) → list_all is_graphic text ≡ true → lacks 32 text ≡ true
no_spaces text h = all_weaker is_graphic (λ b. not (b == 32)) text graphic_no_space h

all_print : (text : List ℕ) → list_all is_graphic text ≡ true → list_all is_printing text ≡ true
all_print text h = all_weaker is_graphic is_printing text graphic_prints h

-- ---- a chord of rising keys

keys_read : (s : Style) (text : ℕ → List ℕ) (k : ℕ) (ks : List ℕ) → same_style s s ≡ true → AreRead s text → AreGraphic text → KeysRise 0 (k ∷ ks)
    → token_chord (join_with_byte 32 (map text (k ∷ ks))) ≡ Some (chord_token s (set_with 0 (k ∷ ks)))
unfolding token_chord
keys_read s text k ks same read graphic h =
    let apart = all_weaker (list_all is_graphic) (lacks 32) (map text (k ∷ ks)) no_spaces (texts_graphic text 0 (k ∷ ks) graphic h) in
    let up : rising_notes (note_at s k) (map (note_at s) ks) ≡ true = notes_rise s k ks same h.2 in
    let set : keys_with (2 ^ k) (map (note_at s) ks) ≡ set_with 0 (k ∷ ks) = notes_set s (2 ^ k) ks ∙ ap (λ a. set_with a ks)
    (sym (or_none (2 ^ k))) in
    ap (λ pieces. all_notes pieces >>= chord_of_notes) (split_joined 32 (text k) (map text ks) apart)
    ∙ ap (λ o. o >>= chord_of_notes) (notes_read s text 0 (k ∷ ks) read h)
    ∙ ap (λ b. if b then Some (chord_token s (keys_with (2 ^ k) (map (note_at s) ks))) else None) up
    ∙ ap (λ keys. Some (chord_token s keys)) set

-- ---- a chord of a set of keys

-- a chord's text begins with that of its lowest key
pub record IsChordText (text : ℕ → List ℕ) (chord : List ℕ) : Type 0 where
  pub key : ℕ
  pub within : key < 128
  pub more : List ℕ
  pub is : chord ≡ text key ++ more

joined_first : (first : List ℕ) (rest : List (List ℕ)) → (more : List ℕ) × (join_with_byte 32 (first ∷ rest) ≡ first ++ more)
joined_first first [] = ([], sym (append-nil first))
joined_first first (next ∷ rest) = (32 ∷ join_with_byte 32 (next ∷ rest), refl)

pub record ReadsChord (s : Style) (text : ℕ → List ℕ) (keys : ℕ) : Type 0 where
  pub printing : list_all is_printing (chord_text text keys) ≡ true
  pub first : IsChordText text (chord_text text keys)
  pub is : token_chord (chord_text text keys) ≡ Some (chord_token s keys)

pub chord_read : (s : Style) (text : ℕ → List ℕ) (keys : ℕ) → same_style s s ≡ true → AreRead s text → AreGraphic text → AreKeys keys
    → ReadsChord s text keys
chord_read s text keys same read graphic are = at (rising_keys keys) refl (keys_rise keys) (keys_set keys are.1)
  where
    at : (ks : List ℕ) → rising_keys keys ≡ ks → KeysRise 0 ks → set_with 0 ks ≡ keys → ReadsChord s text keys
    at [] e h set = absurd (omega (arith, set, are.0))
    at (k ∷ ks) e h set =
        let whole : chord_text text keys ≡ join_with_byte 32 (map text (k ∷ ks)) = ap (λ js. join_with_byte 32 (map text js)) e in
        let front = joined_first (text k) (map text ks) in
        let prints = all_joined is_printing 32 (map text (k ∷ ks)) refl
        (all_weaker (list_all is_graphic) (list_all is_printing) (map text (k ∷ ks)) all_print (texts_graphic text 0 (k ∷ ks) graphic h)) in
        record {
          printing = ap (list_all is_printing) whole ∙ prints;
          first = record { key = k; within = h.1; more = front.0; is = whole ∙ front.1 };
          is = ap token_chord whole ∙ keys_read s text k ks same read graphic h ∙ ap (λ j. Some (chord_token s j)) set;
        }
