-- The text of each column of a data record is read as its token.
use Rattle.std.proofs.Common.{◌≡◌, ℕ, ◌<◌, ◌==◌, ◌&&◌, Bool, true, false, not, List, [], ◌∷◌, ◌++◌, append_assoc, refl, sym, ap, ◌∙◌, subst, arith}
use Rattle.std.specs.Prelude.{Some, codes, if◌then◌else◌}
use Rattle.std.specs.List.{list_all}
use Rattle.std.specs.Str.{bytes_eq}
use Rattle.std.proofs.lemmas.Bool.{and_left}
use Rattle.std.proofs.lemmas.Bool.Decides.{nat_tests}
use Rattle.durations.specs.Pitch.{pitch}
use Rattle.rhythm_base.specs.SoundKinds.{is_rest}
use Rattle.derivation.specs.WellSounded.{AreKeys, IsWellSounding}
use Rattle.durations.specs.declared.value.Value.{Value}
use Rattle.kern_writer.specs.Tokens.{chord_text, grace_text, main_text, note_text, value_text}
use Rattle.voice_values.specs.GoesOn.{goes_on}
use Rattle.voice_values.specs.Values.{VoiceValue}
use Rattle.kern_reader.specs.declared.token.Token.{Token}
use Rattle.kern_reader.specs.declared.token.Token.TheVariants as token
use Rattle.kern_reader.specs.Lines.{digit_first}
use Rattle.text_words.specs.Values.{IsWellValue}
use Rattle.kern_reader.specs.Tokens.{after_value, token_chord, is_value_byte, rest_of, token_of, value_part}
use Rattle.kern_laws.proofs.ScoreLines.{value_token, writing_of}
use Rattle.text_words.proofs.TextRuns.{run_dropped, run_taken}
use Rattle.text_words.proofs.TextTests.{all_append, all_weaker, graphic_prints, is_graphic, is_printing}
use Rattle.kern_laws.proofs.TokenChords.{chord_read}
use Rattle.kern_laws.proofs.TokenNotes.{first_append, grace_graphic, grace_note_text, grace_read, is_marked_short, marks_text, note_graphic, note_parts, note_read, plain_text}
use Rattle.kern_laws.proofs.TokenPitches.{begins_pitch, pitch_begins, pitch_no_rest, value_ends}
use Rattle.kern_laws.proofs.TokenStyles.{grace_style, valued_style}
use Rattle.kern_laws.proofs.TokenValues.{value_begins, value_bytes, value_graphic}
use Rattle.kern_laws.proofs.Values.{values}

-- a text begins with no exclamation mark, asterisk or equals sign
abbrev pub begins_data : List ℕ → Bool
begins_data [] = false
begins_data (b ∷ text) = not (b == 33) && (not (b == 42) && not (b == 61))

-- a column of a data line says a token
pub record SaysToken (text : List ℕ) (t : Token) : Type 0 where
  pub printing : list_all is_printing text ≡ true
  pub first : begins_data text ≡ true
  pub is : token_of text ≡ Some t

pub null_said : SaysToken (codes ".") token.Null
unfolding token_of
null_said = record { printing = refl; first = refl; is = refl }

digit_data : (text : List ℕ) → digit_first text ≡ true → begins_data text ≡ true
digit_data [] h = cc
digit_data (b ∷ text) h =
    let one : (b == 33) ≡ false = grind (arith, nat_tests) in
    let two : (b == 42) ≡ false = grind (arith, nat_tests) in
    let three : (b == 61) ≡ false = grind (arith, nat_tests) in
    rw (one, two, three) refl

-- a text that begins with a digit is no dot
digit_no_dot : (text : List ℕ) → digit_first text ≡ true → bytes_eq text (codes ".") ≡ false
digit_no_dot [] h = cc
digit_no_dot (b ∷ text) h = let no : (b == 46) ≡ false = grind (arith, nat_tests) in rw no refl

-- ---- rests

rest_prints : (v : Value) → list_all is_printing (value_text v ++ codes "r") ≡ true
rest_prints v =
    all_weaker is_graphic is_printing (value_text v ++ codes "r") graphic_prints
    (all_append is_graphic (value_text v) (codes "r") (value_graphic v) refl)

rest_read : (v : Value) → IsWellValue v → token_of (value_text v ++ codes "r") ≡ Some (token.Rest v)
unfolding token_of
rest_read v well =
    let text = value_text v ++ codes "r" in
    let no_dot : bytes_eq text (codes ".") ≡ false = digit_no_dot text (first_append (value_text v) (codes "r") (value_begins v well)) in
    let after : after_value text ≡ codes "r" = run_dropped is_value_byte (value_text v) (codes "r") (value_bytes v) refl in
    let front : value_part text ≡ value_text v = run_taken is_value_byte (value_text v) (codes "r") (value_bytes v) refl in
    let value : rest_of (value_part text) ≡ Some (token.Rest v) = ap rest_of front ∙ rw (values v well) refl in
    ap (λ b. if b then Some token.Null else if bytes_eq (after_value text) (codes "r") then rest_of (value_part text) else token_chord text) no_dot
    ∙ ap (λ t. if bytes_eq t (codes "r") then rest_of (value_part text) else token_chord text) after ∙ value

rest_said : (v : Value) → IsWellValue v → SaysToken (value_text v ++ codes "r") (token.Rest v)
rest_said v well = record {
  printing = rest_prints v;
  first = digit_data (value_text v ++ codes "r") (first_append (value_text v) (codes "r") (value_begins v well));
  is = rest_read v well;
}

-- ---- what is read as a chord, by its first bytes

abbrev IsChordFront : List ℕ → Type 0
IsChordFront text = (begins_data text ≡ true) × (token_of text ≡ token_chord text)

bracket_front : (more : List ℕ) → IsChordFront (91 ∷ more)
unfolding token_of
bracket_front more = (refl, refl)

grace_front : (more : List ℕ) → IsChordFront (113 ∷ more)
unfolding token_of
grace_front more = (refl, refl)

no_rest : (text : List ℕ) → begins_pitch text ≡ true → bytes_eq text (codes "r") ≡ false
no_rest [] h = cc
no_rest (b ∷ text) h = and_left (b == 114) (bytes_eq text []) (pitch_no_rest b h)

begins_append : (text more : List ℕ) → begins_pitch text ≡ true → begins_pitch (text ++ more) ≡ true
begins_append [] more h = cc
begins_append (b ∷ text) more h = h

value_front : (v : Value) (flats : Bool) (key : ℕ) (more : List ℕ) → IsWellValue v → key < 128
    → IsChordFront (value_text v ++ (pitch flats key ++ more))
unfolding token_of
value_front v flats key more well within =
    let rest = pitch flats key ++ more in
    let text = value_text v ++ rest in
    let digit = first_append (value_text v) rest (value_begins v well) in
    let after : after_value text ≡ rest = run_dropped is_value_byte (value_text v) rest (value_bytes v)
    (value_ends (pitch flats key) more (pitch_begins flats key within)) in
    let no : bytes_eq (after_value text) (codes "r") ≡ false = ap (λ t. bytes_eq t (codes "r")) after ∙ no_rest rest
    (begins_append (pitch flats key) more (pitch_begins flats key within)) in (
      digit_data text digit,
      ap (λ b. if b then Some token.Null else if bytes_eq (after_value text) (codes "r") then rest_of (value_part text) else token_chord text)
          (digit_no_dot text digit)
          ∙ ap (λ b. if b then rest_of (value_part text) else token_chord text) no,
    )

-- the text of a note begins a chord
note_front : (flats : Bool) (v : VoiceValue) (next : Bool) (key : ℕ) (more : List ℕ) → IsWellValue v.value → key < 128
    → IsChordFront (note_text flats v next key ++ more)
note_front flats v next key more well within =
    subst (λ t. IsChordFront (t ++ more)) (sym (note_parts flats v next key)) (at (not (goes_on v) && next))
  where
    at : (opens : Bool) → IsChordFront (((if opens then codes "[" else []) ++ plain_text flats v next key) ++ more)
    at true = bracket_front (plain_text flats v next key ++ more)
    at false =
        let marks = marks_text (goes_on v) next (is_marked_short v) in
        let parts : plain_text flats v next key ++ more ≡ value_text v.value ++ (pitch flats key ++ (marks ++ more)) =
        append_assoc (value_text v.value) (pitch flats key ++ marks) more ∙ ap (λ t. value_text v.value ++ t)
        (append_assoc (pitch flats key) marks more) in
        subst IsChordFront (sym parts) (value_front v.value flats key (marks ++ more) well within)

-- ---- chords

-- a chord whose notes begin chords
chord_said : (text : ℕ → List ℕ) (keys : ℕ) (t : Token) → ((k : ℕ) (more : List ℕ) → k < 128 → IsChordFront (text k ++ more))
    → list_all is_printing (chord_text text keys) ≡ true → (k : ℕ) (more : List ℕ) → k < 128 → chord_text text keys ≡ text k ++ more
    → token_chord (chord_text text keys) ≡ Some t → SaysToken (chord_text text keys) t
chord_said text keys t fronts printing k more within parts is =
    let front = subst IsChordFront (sym parts) (fronts k more within) in
    record { printing = printing; first = front.0; is = front.1 ∙ is }

pub grace_said : (flats : Bool) (keys : ℕ) → AreKeys keys → SaysToken (grace_text flats keys) (token.Grace keys)
grace_said flats keys are =
    let read = chord_read grace_style.0 (grace_note_text flats) keys grace_style.1.same (grace_read flats) (grace_graphic flats) are in
    let first = read.first in
    chord_said (grace_note_text flats) keys (token.Grace keys)
    (λ k more within. grace_front (pitch flats k ++ more)) read.printing first.key first.more first.within first.is
    (read.is ∙ ap Some (grace_style.1.token keys))

valued_said : (flats : Bool) (v : VoiceValue) (next : Bool) → IsWellValue v.value → AreKeys v.sound.keys
    → SaysToken (chord_text (note_text flats v next) v.sound.keys) (token.Chord (writing_of v next) v.sound.keys)
valued_said flats v next well are =
    let style = valued_style (writing_of v next) in
    let read = chord_read style.0 (note_text flats v next) v.sound.keys style.1.same (λ k within. note_read flats v next k well within)
    (note_graphic flats v next) are in
    let first = read.first in
    chord_said (note_text flats v next) v.sound.keys (token.Chord (writing_of v next) v.sound.keys)
    (λ k more within. note_front flats v next k more well within) read.printing first.key first.more first.within first.is
    (read.is ∙ ap Some (style.1.token v.sound.keys))

-- ---- the text at the place of a value

pub main_said : (flats : Bool) (v : VoiceValue) (next : Bool) → IsWellValue v.value → IsWellSounding v.sound
    → SaysToken (main_text flats v next) (value_token v next)
main_said flats v next well sounds = at (is_rest v.sound.kind) sounds.sounding
  where
    at : (silent : Bool) → (silent ≡ false → AreKeys v.sound.keys)
        → SaysToken (if silent then value_text v.value ++ codes "r" else chord_text (note_text flats v next) v.sound.keys)
        (if silent then token.Rest v.value else token.Chord (writing_of v next) v.sound.keys)
    at true keys = rest_said v.value well
    at false keys = valued_said flats v next well (keys refl)
