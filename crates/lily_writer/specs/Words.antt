-- What a word of a bar says: what stands there between two spaces.
use Rattle.std.specs.Prelude.{ℕ, ◌+◌, ◌-◌, ◌*◌, ◌^◌, Bool, true, false, ◌==◌, ◌&&◌, ◌||◌, nat_le, if◌then◌else◌, List, [], ◌∷◌, codes, length, drop, take_while, position, Option, Some, None}
use Rattle.std.specs.Char.{is_ascii_digit}
use Rattle.std.specs.List.{list_all, prefix_len, slice_split}
use Rattle.std.specs.Option.{option_map}
use Rattle.std.specs.Str.{bytes_eq}
use Rattle.rhythm_base.specs.declared.span.Frac.{Frac}
use Rattle.rhythm_base.specs.Signatures.{is_den}
use Rattle.text_words.specs.Lines.{begins_with}
use Rattle.text_words.specs.Steps.{◌>>=◌}
use Rattle.text_words.specs.Marks.{are_dots}
use Rattle.text_words.specs.Numbers.{number_of, within_keys}
use Rattle.lily_writer.specs.Fractions.{frac, frac_times}
use Rattle.lily_writer.specs.Pitches.{names}

-- the longest front of bytes of a kind, and what stands after it
abbrev pub front : (ℕ → Bool) → List ℕ → List ℕ
front kind text = take_while kind text

abbrev pub after_front : (ℕ → Bool) → List ℕ → List ℕ
after_front kind text = drop (prefix_len kind text) text

abbrev pub is_letter : ℕ → Bool
is_letter b = nat_le 97 b && nat_le b 122

-- ---- pitches: a name of letters, and apostrophes or commas

-- an octave has the key of a name with flats, or with sharps
abbrev pub or_else : Option ℕ → Option ℕ → Option ℕ
or_else None other = other
or_else (Some n) other = Some n

abbrev pub named_key : List ℕ → Option ℕ
named_key text = or_else (position (bytes_eq text) (names true)) (position (bytes_eq text) (names false))

abbrev pub marked_octave : List ℕ → Option ℕ
marked_octave text =
    if list_all (λ b. b == 39) text then Some (4 + length text)
    else if list_all (λ b. b == 44) text && nat_le (length text) 4 then Some (4 - length text)
    else None

unfoldable pub word_key : List ℕ → Option ℕ
word_key text = do
  octave ← marked_octave (after_front is_letter text)
  key ← named_key (front is_letter text)
  within_keys (12 * octave + key)

-- ---- values: a power of two or a word, at most two dots, and a scale or none

abbrev pub is_base_byte : ℕ → Bool
is_base_byte b = is_ascii_digit b || ((b == 92) || is_letter b)

abbrev pub is_dot : ℕ → Bool
is_dot b = b == 46

abbrev pub is_scale_byte : ℕ → Bool
is_scale_byte b = is_ascii_digit b || ((b == 42) || (b == 47))

-- one of 1, 2, 4 .. 64 equal parts of a whole note
abbrev pub part_of_whole : ℕ → Option Frac
part_of_whole n = if is_den n then Some (frac 1 n) else None

unfoldable pub base_of : List ℕ → Option Frac
base_of text =
    if bytes_eq text (codes "\\breve") then Some (frac 2 1)
    else if bytes_eq text (codes "\\longa") then Some (frac 4 1)
    else number_of 64 text >>= part_of_whole

-- none, one or two dots make a value so many times as long
abbrev pub dotted : List ℕ → Option Frac
dotted text = if are_dots text then Some (frac (2 * 2 ^ length text - 1) (2 ^ length text)) else None

abbrev pub ratio_of : List (List ℕ) → Option Frac
ratio_of (first ∷ second ∷ []) = do
  num ← number_of 64 first
  den ← number_of 61440 second
  Some (frac num den)
ratio_of _ = None

-- an asterisk and a fraction
unfoldable pub scale_of : List ℕ → Option Frac
scale_of [] = Some (frac 1 1)
scale_of (b ∷ text) = if b == 42 then ratio_of (slice_split (λ b. b == 47) text) else None

-- ---- what stands after the pitches of a chord: a value, and marks

-- how long a value is, whether it is marked short, and whether it is tied to the next one
pub record WordEnding : Type 0 where
  pub len : Frac
  pub short : Bool
  pub tied : Bool

abbrev pub word_marks : List ℕ → Option (Bool × Bool)
word_marks text =
    if bytes_eq text [] then Some (false, false)
    else if bytes_eq text (codes "-.") then Some (true, false)
    else if bytes_eq text (codes "~") then Some (false, true)
    else if bytes_eq text (codes "-.~") then Some (true, true)
    else None

abbrev pub after_base : List ℕ → List ℕ
after_base text = after_front is_base_byte text

abbrev pub after_dots : List ℕ → List ℕ
after_dots text = after_front is_dot (after_base text)

unfoldable pub word_ending : List ℕ → Option WordEnding
word_ending text = do
  base ← base_of (front is_base_byte text)
  dots ← dotted (front is_dot (after_base text))
  scale ← scale_of (front is_scale_byte (after_dots text))
  marks ← word_marks (after_front is_scale_byte (after_dots text))
  Some (record { len = frac_times (frac_times base dots) scale; short = marks.0; tied = marks.1 })

-- ---- words

-- `\grace` and the braces after it; a value of a rest; a value of one key; and of a chord between angles the first key, each key in
-- the middle, and the last one with a value
pub data Word : Type 0 where
  grace_word : Word
  opening_word : Word
  closing_word : Word
  rest_word : Frac → Word
  single_key : ℕ → WordEnding → Word
  first_key : ℕ → Word
  middle_key : ℕ → Word
  last_key : ℕ → WordEnding → Word

-- a rest has no marks
abbrev pub word_rest : WordEnding → Option Word
word_rest e = if e.short || e.tied then None else Some (rest_word e.len)

abbrev pub is_lily_pitch_byte : ℕ → Bool
is_lily_pitch_byte b = is_letter b || ((b == 39) || (b == 44))

-- a key, and what stands after its pitch
abbrev pub word_of_key : ℕ → List ℕ → Option Word
word_of_key key [] = Some (middle_key key)
word_of_key key (b ∷ text) =
    if b == 62 then option_map (λ e. last_key key e) (word_ending text)
    else option_map (λ e. single_key key e) (word_ending (b ∷ text))

unfoldable pub pitched_word : List ℕ → Option Word
pitched_word text = word_key (front is_lily_pitch_byte text) >>= λ key. word_of_key key (after_front is_lily_pitch_byte text)

unfoldable pub word_of : List ℕ → Option Word
word_of text =
    if bytes_eq text (codes "\\grace") then Some grace_word
    else if bytes_eq text (codes "{") then Some opening_word
    else if bytes_eq text (codes "}") then Some closing_word
    else if begins_with 114 text then word_ending (drop 1 text) >>= word_rest
    else if begins_with 60 text then option_map (λ key. first_key key) (word_key (drop 1 text))
    else pitched_word text
