-- What a word of a bar says: what stands there between two spaces.
use Rattle.std.specs.Prelude.{ℕ, ◌+◌, ◌-◌, ◌*◌, Bool, false, ◌==◌, ◌&&◌, nat_eq, nat_le, if◌then◌else◌, List, [], ◌∷◌, codes, length, drop, Option, Some, None}
use Rattle.std.specs.Char.{is_ascii_digit}
use Rattle.std.specs.Int.{is_power_of_two}
use Rattle.std.specs.List.{list_all, slice_split, starts_with}
use Rattle.std.specs.Option.{option_map}
use Rattle.std.specs.Str.{bytes_eq}
use Rattle.rhythm_base.specs.declared.limits.TheConstants.{MOST_UNITS}
use Rattle.rhythm_base.specs.declared.span.Frac.{Frac}
use Rattle.text_words.specs.Lines.{begins_with}
use Rattle.text_words.specs.Steps.{◌>>=◌}
use Rattle.text_words.specs.Numbers.{number_of, within_keys}
use Rattle.lily_writer.specs.Fractions.{frac, frac_times}
use Rattle.lily_writer.specs.Reading.{bar_fraction}
use Rattle.lily_writer.specs.Words.{WordEnding, after_base, after_dots, after_front, dotted, front, is_base_byte, is_dot, is_letter, is_lily_pitch_byte, is_scale_byte, scale_of, word_marks}

-- ---- pitches: a letter, `es` for each flat or `is` for each sharp, and apostrophes or commas

-- the key of a letter, 0 for C to 11 for B
abbrev pub letter_of : ℕ → Option ℕ
letter_of b =
    if b == 99 then Some 0 else if b == 100 then Some 2 else if b == 101 then Some 4 else if b == 102 then Some 5
    else if b == 103 then Some 7 else if b == 97 then Some 9 else if b == 98 then Some 11 else None

-- two flats are 0, none of them 2, two sharps 4
abbrev pub alteration_of : List ℕ → Option ℕ
alteration_of text =
    if bytes_eq text [] then Some 2
    else if bytes_eq text (codes "is") then Some 3
    else if bytes_eq text (codes "es") then Some 1
    else if bytes_eq text (codes "isis") then Some 4
    else if bytes_eq text (codes "eses") then Some 0
    else None

abbrev pub name_of : List ℕ → Option ℕ
name_of [] = None
name_of (b ∷ text) = letter_of b >>= λ letter. option_map (λ alteration. letter + alteration) (alteration_of text)

-- The key of such a name two below its letter's in the octave below middle C, by its marks: an apostrophe is an
-- octave up, a comma one down
abbrev pub marked_key : ℕ → List ℕ → Option ℕ
marked_key name marks =
    if list_all (λ b. b == 39) marks then Some (46 + name + 12 * length marks)
    else if list_all (λ b. b == 44) marks && nat_le (12 * length marks) (46 + name)
    then Some (46 + name - 12 * length marks)
    else None

unfoldable pub page_key : List ℕ → Option ℕ
page_key text = do
  name ← name_of (front is_letter text)
  key ← marked_key name (after_front is_letter text)
  within_keys key

-- ---- values: a power of two up to 1024 or a word, dots, and a scale or none

abbrev pub part_of_note : ℕ → Option Frac
part_of_note n = if is_power_of_two n then Some (frac 1 n) else None

unfoldable pub page_base : List ℕ → Option Frac
page_base text =
    if bytes_eq text (codes "\\breve") then Some (frac 2 1)
    else if bytes_eq text (codes "\\longa") then Some (frac 4 1)
    else number_of 1024 text >>= part_of_note

-- how long a value is, and its marks
unfoldable pub page_ending : List ℕ → Option WordEnding
page_ending text = do
  base ← page_base (front is_base_byte text)
  dots ← dotted (front is_dot (after_base text))
  scale ← scale_of (front is_scale_byte (after_dots text))
  marks ← word_marks (after_front is_scale_byte (after_dots text))
  Some (record { len = frac_times (frac_times base dots) scale; short = marks.0; tied = marks.1 })

-- ---- brackets: of so many in the time of so many each is so much shorter

abbrev pub bracket_ratio : List (List ℕ) → Option Frac
bracket_ratio (first ∷ second ∷ []) = do
  actual ← number_of MOST_UNITS first
  normal ← number_of MOST_UNITS second
  Some (frac normal actual)
bracket_ratio _ = None

-- ---- words

-- The word before the numbers of a bracket, these numbers, the word before grace chords, the braces of both, a silent
-- grace note, a rest of a whole bar, a rest, a chord of one key, and of one of several keys, between angles, the
-- first key, one in the middle, and the last
pub data PageWord : Type 0 where
  tuplet_word : PageWord
  ratio_word : Frac → PageWord
  graces_word : PageWord
  opening_word : PageWord
  closing_word : PageWord
  silent_word : PageWord
  bar_word : Frac → PageWord
  rest_word : WordEnding → PageWord
  single_key : ℕ → WordEnding → PageWord
  first_key : ℕ → PageWord
  middle_key : ℕ → PageWord
  last_key : ℕ → WordEnding → PageWord

-- a key, and what stands after its pitch
abbrev pub page_word_of_key : ℕ → List ℕ → Option PageWord
page_word_of_key key [] = Some (middle_key key)
page_word_of_key key (b ∷ text) =
    if b == 62 then option_map (λ e. last_key key e) (page_ending text)
    else option_map (λ e. single_key key e) (page_ending (b ∷ text))

unfoldable pub page_pitched_word : List ℕ → Option PageWord
page_pitched_word text =
    page_key (front is_lily_pitch_byte text) >>= λ key. page_word_of_key key (after_front is_lily_pitch_byte text)

-- the first byte is a digit
abbrev pub begins_number : List ℕ → Bool
begins_number [] = false
begins_number (b ∷ text) = is_ascii_digit b

unfoldable pub page_word : List ℕ → Option PageWord
page_word text =
    if bytes_eq text (codes "\\tuplet") then Some tuplet_word
    else if bytes_eq text (codes "\\slashedGrace") then Some graces_word
    else if bytes_eq text (codes "{") then Some opening_word
    else if bytes_eq text (codes "}") then Some closing_word
    else if bytes_eq text (codes "s8") then Some silent_word
    else if starts_with nat_eq text (codes "R1*") then option_map (λ len. bar_word len) (bar_fraction (drop 3 text))
    else if begins_with 114 text then option_map (λ e. rest_word e) (page_ending (drop 1 text))
    else if begins_with 60 text then option_map (λ key. first_key key) (page_key (drop 1 text))
    else if begins_number text
    then option_map (λ ratio. ratio_word ratio) (bracket_ratio (slice_split (λ b. b == 47) text))
    else page_pitched_word text
