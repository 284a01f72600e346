-- Notes are read as they are written.
use Rattle.std.proofs.Common.{◌≡◌, ℕ, ◌<◌, ◌==◌, ◌&&◌, ◌||◌, Bool, true, false, not, List, [], ◌∷◌, ◌++◌, drop, take_while, append_assoc, refl, sym, ap, ◌∙◌, arith}
use Rattle.std.specs.Prelude.{Some, codes, if◌then◌else◌}
use Rattle.std.specs.List.{list_all, prefix_len}
use Rattle.std.proofs.lemmas.Bool.Decides.{nat_tests}
use Rattle.rhythm_base.specs.declared.sound.SoundKind.{SoundKind}
use Rattle.rhythm_base.specs.declared.sound.SoundKind.TheVariants.{Begin, Short, Tie, Rest}
use Rattle.durations.specs.Pitch.{pitch}
use Rattle.rhythm_base.specs.SoundKinds.{is_rest, is_short, is_tie}
use Rattle.kern_writer.specs.Tokens.{closing, note_text, opening, short_mark, value_text}
use Rattle.voice_values.specs.GoesOn.{goes_on}
use Rattle.voice_values.specs.Values.{VoiceValue}
use Rattle.kern_reader.specs.Lines.{digit_first}
use Rattle.text_words.specs.Values.{IsWellValue}
use Rattle.kern_reader.specs.Tokens.{after_value, is_pitch_byte, is_value_byte, pitch_key, marks_of, marks_part, note_of, pitch_part, value_of, value_part, valued_note}
use Rattle.kern_laws.proofs.ScoreLines.{tie_mark, writing_of}
use Rattle.kern_laws.proofs.Pitches.{pitches}
use Rattle.text_words.proofs.TextRuns.{run_dropped, run_taken}
use Rattle.text_words.proofs.TextTests.{all_append, is_graphic}
use Rattle.kern_laws.proofs.TokenPitches.{pitch_begins, pitch_bytes, pitch_graphic, value_ends}
use Rattle.kern_laws.proofs.TokenStyles.{Style, grace_style, note_at, valued_style}
use Rattle.kern_laws.proofs.TokenValues.{value_begins, value_bytes, value_graphic}
use Rattle.kern_laws.proofs.Values.{values}

-- ---- marks

-- what stands after a pitch, where a value goes on or not, one that goes on follows or not, and it is marked as short or not
abbrev pub marks_text : Bool → Bool → Bool → List ℕ
marks_text goes next short = closing goes next ++ (if short then codes "'" else [])

-- no value that goes on is marked as short
marks_read : (goes next short : Bool) → (goes ≡ true → short ≡ false) → marks_of (marks_text goes next short) ≡ Some (tie_mark goes next, short)
unfolding marks_of
marks_read false next true h = refl
marks_read false next false h = refl
marks_read true true false h = refl
marks_read true false false h = refl
marks_read true true true h = let e : true ≡ false = h refl in cc
marks_read true false true h = let e : true ≡ false = h refl in cc

marks_end : (goes next short : Bool) → prefix_len is_pitch_byte (marks_text goes next short) ≡ 0
marks_end false next true = refl
marks_end false next false = refl
marks_end true true true = refl
marks_end true true false = refl
marks_end true false true = refl
marks_end true false false = refl

marks_graphic : (goes next short : Bool) → list_all is_graphic (marks_text goes next short) ≡ true
marks_graphic false next true = refl
marks_graphic false next false = refl
marks_graphic true true true = refl
marks_graphic true true false = refl
marks_graphic true false true = refl
marks_graphic true false false = refl

short_kind : (kind : SoundKind) (first : Bool) → (not (is_rest kind) && (is_tie kind || not first)) ≡ true → (is_short kind && first) ≡ false
short_kind Begin first h = refl
short_kind Short true h = sym h
short_kind Short false h = refl
short_kind Tie first h = refl
short_kind Rest first h = refl

abbrev pub is_marked_short : VoiceValue → Bool
is_marked_short v = is_short v.sound.kind && v.first

short_begins : (v : VoiceValue) → goes_on v ≡ true → is_marked_short v ≡ false
short_begins v h = short_kind v.sound.kind v.first h

-- ---- a note with a value

-- a note of a value without a bracket before it
abbrev pub plain_text : Bool → VoiceValue → Bool → ℕ → List ℕ
plain_text flats v next key = value_text v.value ++ (pitch flats key ++ marks_text (goes_on v) next (is_marked_short v))

-- a note is its bracket and that
pub note_parts : (flats : Bool) (v : VoiceValue) (next : Bool) (key : ℕ)
    → note_text flats v next key ≡ opening (goes_on v) next ++ plain_text flats v next key
note_parts flats v next key =
    let front = opening (goes_on v) next in
    let value = value_text v.value in
    let letters = pitch flats key in
    let marks = marks_text (goes_on v) next (is_marked_short v) in
    append_assoc ((front ++ value) ++ letters) (closing (goes_on v) next) (short_mark v) ∙ append_assoc (front ++ value) letters marks
    ∙ append_assoc front value (letters ++ marks)

-- the style of its notes
abbrev pub note_style : VoiceValue → Bool → Style
note_style v next = (valued_style (writing_of v next)).0

plain_read : (flats : Bool) (v : VoiceValue) (next : Bool) (key : ℕ) → IsWellValue v.value → key < 128
    → valued_note (writing_of v next).opens (plain_text flats v next key) ≡ Some (note_at (note_style v next) key)
plain_read flats v next key well within =
    let text = plain_text flats v next key in
    let value = value_text v.value in
    let letters = pitch flats key in
    let marks = marks_text (goes_on v) next (is_marked_short v) in
    let ends = value_ends letters marks (pitch_begins flats key within) in
    let over = marks_end (goes_on v) next (is_marked_short v) in
    let first : value_part text ≡ value = run_taken is_value_byte value (letters ++ marks) (value_bytes v.value) ends in
    let rest : after_value text ≡ letters ++ marks = run_dropped is_value_byte value (letters ++ marks) (value_bytes v.value) ends in
    let second : pitch_part text ≡ letters = ap (λ t. take_while is_pitch_byte t) rest ∙ run_taken is_pitch_byte letters marks
    (pitch_bytes flats key within) over in
    let third : marks_part text ≡ marks = ap (λ t. drop (prefix_len is_pitch_byte t) t) rest ∙ run_dropped is_pitch_byte letters marks
    (pitch_bytes flats key within) over in
    (valued_style (writing_of v next)).1.read text key (ap value_of first ∙ values v.value well) (ap pitch_key second ∙ pitches flats key within)
    (ap marks_of third ∙ marks_read (goes_on v) next (is_marked_short v) (short_begins v))

-- a note that begins with a digit has no bracket
unbracketed : (text : List ℕ) → digit_first text ≡ true → note_of text ≡ valued_note false text
unfolding note_of
unbracketed [] h = cc
unbracketed (b ∷ text) h =
    let no_grace : (b == 113) ≡ false = grind (arith, nat_tests) in
    let no_bracket : (b == 91) ≡ false = grind (arith, nat_tests) in
    rw (no_grace, no_bracket) refl

pub first_append : (text more : List ℕ) → digit_first text ≡ true → digit_first (text ++ more) ≡ true
first_append [] more h = cc
first_append (b ∷ text) more h = h

bracket_read : (flats : Bool) (v : VoiceValue) (next : Bool) (key : ℕ) (opens : Bool) → IsWellValue v.value
    → note_of ((if opens then codes "[" else []) ++ plain_text flats v next key) ≡ valued_note opens (plain_text flats v next key)
unfolding note_of
bracket_read flats v next key true well = refl
bracket_read flats v next key false well =
    let rest = pitch flats key ++ marks_text (goes_on v) next (is_marked_short v) in
    unbracketed (plain_text flats v next key) (first_append (value_text v.value) rest (value_begins v.value well))

pub note_read : (flats : Bool) (v : VoiceValue) (next : Bool) (key : ℕ) → IsWellValue v.value → key < 128
    → note_of (note_text flats v next key) ≡ Some (note_at (note_style v next) key)
note_read flats v next key well within =
    ap note_of (note_parts flats v next key) ∙ bracket_read flats v next key (not (goes_on v) && next) well ∙ plain_read flats v next key well within

plain_graphic : (flats : Bool) (v : VoiceValue) (next : Bool) (key : ℕ) → key < 128 → list_all is_graphic (plain_text flats v next key) ≡ true
plain_graphic flats v next key within =
    let marks = marks_text (goes_on v) next (is_marked_short v) in
    all_append is_graphic (value_text v.value) (pitch flats key ++ marks) (value_graphic v.value)
    (all_append is_graphic (pitch flats key) marks (pitch_graphic flats key within) (marks_graphic (goes_on v) next (is_marked_short v)))

bracket_graphic : (opens : Bool) → list_all is_graphic (if opens then codes "[" else []) ≡ true
bracket_graphic true = refl
bracket_graphic false = refl

pub note_graphic : (flats : Bool) (v : VoiceValue) (next : Bool) (key : ℕ) → key < 128 → list_all is_graphic (note_text flats v next key) ≡ true
note_graphic flats v next key within =
    ap (list_all is_graphic) (note_parts flats v next key)
    ∙ all_append is_graphic (opening (goes_on v) next) (plain_text flats v next key) (bracket_graphic (not (goes_on v) && next))
    (plain_graphic flats v next key within)

-- ---- a grace note

abbrev pub grace_note_text : Bool → ℕ → List ℕ
grace_note_text flats key = codes "q" ++ pitch flats key

pub grace_read : (flats : Bool) (key : ℕ) → key < 128 → note_of (grace_note_text flats key) ≡ Some (note_at grace_style.0 key)
unfolding note_of
grace_read flats key within = grace_style.1.read (pitch flats key) key (pitches flats key within)

pub grace_graphic : (flats : Bool) (key : ℕ) → key < 128 → list_all is_graphic (grace_note_text flats key) ≡ true
grace_graphic flats key within = pitch_graphic flats key within
