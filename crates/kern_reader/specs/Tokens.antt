-- The tokens of a data line: a dot, a rest, a chord of grace notes, or a chord with a value.
use Rattle.std.specs.Prelude.{◌<◌, ⊤, ℕ, suc, ◌+◌, ◌-◌, ◌*◌, ◌^◌, Bool, true, false, ◌==◌, ◌&&◌, ◌||◌, nat_le, nat_lt, if◌then◌else◌, List, [], ◌∷◌, codes, length, drop, take_while, bit_or, fold, position, Option, Some, None}
use Rattle.std.specs.Char.{is_ascii_digit}
use Rattle.std.specs.List.{prefix_len, slice_split}
use Rattle.std.specs.Option.{option_map}
use Rattle.std.specs.Str.{bytes_eq}
use Rattle.durations.specs.Pitch.{is_black}
use Rattle.rhythm_base.specs.Signatures.{IsSignature}
use Rattle.durations.specs.declared.value.Recip.{Recip}
use Rattle.durations.specs.declared.value.Recip.TheVariants.{Of, Breve, Long}
use Rattle.durations.specs.declared.value.Value.{Value}
use Rattle.kern_reader.specs.declared.token.Note.{Note}
use Rattle.kern_reader.specs.declared.token.Style.{Style}
use Rattle.kern_reader.specs.declared.token.Style.TheVariants as style
use Rattle.kern_reader.specs.declared.token.TieMark.{TieMark}
use Rattle.kern_reader.specs.declared.token.TieMark.TheVariants.{Absent, GoesOn, Ends}
use Rattle.kern_reader.specs.declared.token.Token.{Token}
use Rattle.kern_reader.specs.declared.token.Token.TheVariants as token
use Rattle.kern_reader.specs.declared.token.Writing.{Writing}
use Rattle.text_words.specs.Marks.{are_dots, same_bool}
use Rattle.text_words.specs.Numbers.{number_of, within_keys}
use Rattle.text_words.specs.Steps.{◌>>=◌}
use Rattle.text_words.specs.Values.{IsWellValue}
use Rattle.text_words.specs.declared.time_signature.TimeSignature.{TimeSignature}

-- ---- values: a number, `0` or `00`, and at most two dots

unfoldable pub recip_of : List ℕ → Option Recip
recip_of text =
    if bytes_eq text (codes "0") then Some Breve
    else if bytes_eq text (codes "00") then Some Long
    else option_map (λ n. Of n) (number_of 61440 text)

abbrev pub digits_part : List ℕ → List ℕ
digits_part text = take_while is_ascii_digit text

abbrev pub dots_part : List ℕ → List ℕ
dots_part text = drop (prefix_len is_ascii_digit text) text

unfoldable pub value_of : List ℕ → Option Value
value_of text =
    if are_dots (dots_part text)
    then option_map (λ recip. record { recip = recip; dots = length (dots_part text) }) (recip_of (digits_part text))
    else None

-- ---- pitches: a letter once or more, and an accidental

abbrev pub is_lower_case : ℕ → Bool
is_lower_case letter = nat_le 97 letter && nat_le letter 103

abbrev pub is_upper : ℕ → Bool
is_upper letter = nat_le 65 letter && nat_le letter 71

-- the octave of so many lower or upper case letters: 5 of one lower case letter, 4 of one upper case letter
abbrev pub octave_of : ℕ → ℕ → Option ℕ
octave_of letter count =
    if is_lower_case letter && nat_le count 6 then Some (count + 4)
    else if is_upper letter && nat_le count 5 then Some (5 - count)
    else None

abbrev pub lower_letter : ℕ → ℕ
lower_letter letter = if is_upper letter then letter + 32 else letter

-- the white key of a letter in its octave
unfoldable pub white_key : ℕ → Option ℕ
white_key letter = position (λ b. b == lower_letter letter) (codes "c.d.ef.g.a.b")

-- and the key that an accidental makes of it; only black keys have one
abbrev pub altered : List ℕ → ℕ → Option ℕ
altered text white =
    if bytes_eq text [] then Some white
    else if bytes_eq text (codes "#") && is_black (white + 1) then Some (white + 1)
    else if bytes_eq text (codes "-") && is_black (white - 1) then Some (white - 1)
    else None

-- both: the key of a letter with its accidental, in its octave
abbrev pub octave_key : ℕ → List ℕ → Option ℕ
octave_key letter accidental = white_key letter >>= altered accidental

abbrev pub key_of_letters : ℕ → ℕ → List ℕ → Option ℕ
key_of_letters letter count accidental = do
  octave ← octave_of letter count
  white ← white_key letter
  key ← altered accidental white
  within_keys (12 * octave + key)

unfoldable pub pitch_key : List ℕ → Option ℕ
pitch_key [] = None
pitch_key (letter ∷ text) = key_of_letters letter (suc (prefix_len (λ b. b == letter) text)) (drop (prefix_len (λ b. b == letter) text) text)

-- ---- notes

-- a value is written with digits and dots
abbrev pub is_value_byte : ℕ → Bool
is_value_byte b = is_ascii_digit b || (b == 46)

-- and a pitch with letters and an accidental
abbrev pub is_pitch_byte : ℕ → Bool
is_pitch_byte b = is_lower_case b || (is_upper b || ((b == 35) || (b == 45)))

abbrev pub value_part : List ℕ → List ℕ
value_part text = take_while is_value_byte text

abbrev pub after_value : List ℕ → List ℕ
after_value text = drop (prefix_len is_value_byte text) text

abbrev pub pitch_part : List ℕ → List ℕ
pitch_part text = take_while is_pitch_byte (after_value text)

abbrev pub marks_part : List ℕ → List ℕ
marks_part text = drop (prefix_len is_pitch_byte (after_value text)) (after_value text)

-- what stands after the pitch: nothing, an apostrophe, an underscore or a bracket; no apostrophe where a tie goes on
unfoldable pub marks_of : List ℕ → Option (TieMark × Bool)
marks_of text =
    if bytes_eq text [] then Some (Absent, false)
    else if bytes_eq text (codes "'") then Some (Absent, true)
    else if bytes_eq text (codes "_") then Some (GoesOn, false)
    else if bytes_eq text (codes "]") then Some (Ends, false)
    else None

-- a note with a value, before which a bracket stands or none
unfoldable pub valued_note : Bool → List ℕ → Option Note
valued_note opens text = do
  value ← value_of (value_part text)
  key ← pitch_key (pitch_part text)
  marks ← marks_of (marks_part text)
  Some (record { style = style.Valued (record { value = value; opens = opens; tie = marks.0; short = marks.1 }); key = key })

abbrev pub grace_note : List ℕ → Option Note
grace_note text = option_map (λ key. record { style = style.Grace; key = key }) (pitch_key text)

-- a grace note is a q and a pitch
unfoldable pub note_of : List ℕ → Option Note
note_of [] = None
note_of (b ∷ text) =
    if b == 113 then grace_note text
    else if b == 91 then valued_note true text
    else valued_note false (b ∷ text)

-- ---- chords: notes with a space between two, alike in value and marks, by rising key

abbrev pub same_recip : Recip → Recip → Bool
same_recip (Of m) (Of n) = m == n
same_recip Breve Breve = true
same_recip Long Long = true
same_recip _ _ = false

abbrev pub same_tie : TieMark → TieMark → Bool
same_tie Absent Absent = true
same_tie GoesOn GoesOn = true
same_tie Ends Ends = true
same_tie _ _ = false

abbrev pub same_writing : Writing → Writing → Bool
same_writing w v =
    same_recip w.value.recip v.value.recip && ((w.value.dots == v.value.dots) && (same_bool w.opens v.opens && (same_tie w.tie v.tie && same_bool w.short v.short)))

abbrev pub same_style : Style → Style → Bool
same_style style.Grace style.Grace = true
same_style (style.Valued w) (style.Valued v) = same_writing w v
same_style _ _ = false

-- each note is written as the one before it, and its key is higher
abbrev pub follows : Note → Note → Bool
follows before note = same_style before.style note.style && nat_lt before.key note.key

abbrev pub rising_notes : Note → List Note → Bool
rising_notes before [] = true
rising_notes before (note ∷ notes) = follows before note && rising_notes note notes

abbrev pub keys_with : ℕ → List Note → ℕ
keys_with keys notes = fold (λ keys note. bit_or keys (2 ^ note.key)) keys notes

abbrev pub chord_token : Style → ℕ → Token
chord_token style.Grace keys = token.Grace keys
chord_token (style.Valued w) keys = token.Chord w keys

abbrev pub all_notes : List (List ℕ) → Option (List Note)
all_notes [] = Some []
all_notes (text ∷ texts) = note_of text >>= λ note. option_map (λ notes. note ∷ notes) (all_notes texts)

abbrev pub chord_of_notes : List Note → Option Token
chord_of_notes [] = None
chord_of_notes (note ∷ notes) = if rising_notes note notes then Some (chord_token note.style (keys_with (2 ^ note.key) notes)) else None

unfoldable pub token_chord : List ℕ → Option Token
token_chord text = all_notes (slice_split (λ b. b == 32) text) >>= chord_of_notes

-- ---- tokens

abbrev pub rest_of : List ℕ → Option Token
rest_of text = option_map (λ value. token.Rest value) (value_of text)

-- a rest is a value and an r
unfoldable pub token_of : List ℕ → Option Token
token_of text =
    if bytes_eq text (codes ".") then Some token.Null
    else if bytes_eq (after_value text) (codes "r") then rest_of (value_part text)
    else token_chord text

-- all columns of a line
abbrev pub all_tokens : List (List ℕ) → Option (List Token)
all_tokens [] = Some []
all_tokens (text ∷ texts) = token_of text >>= λ t. option_map (λ ts. t ∷ ts) (all_tokens texts)

-- ---- what is read

abbrev pub IsWellSignature : TimeSignature → Type 0
IsWellSignature signature = IsSignature signature.num signature.den

abbrev pub IsWellToken : Token → Type 0
IsWellToken (token.Bar signature) = IsWellSignature signature
IsWellToken token.Null = ⊤
IsWellToken (token.Rest value) = IsWellValue value
IsWellToken (token.Grace keys) = ⊤
IsWellToken (token.Chord writing keys) = IsWellValue writing.value

abbrev pub IsWellStyle : Style → Type 0
IsWellStyle style.Grace = ⊤
IsWellStyle (style.Valued writing) = IsWellValue writing.value

pub record IsWellNote (n : Note) : Type 0 where
  pub style : IsWellStyle n.style
  pub key : n.key < 128
