-- Each pitch that is written is read as its key, and begins with a letter other than r.
use Rattle.std.proofs.Common.{◌≡◌, ℕ, ◌<◌, ◌==◌, ◌&&◌, Bool, true, false, not, List, [], ◌∷◌, Some, refl}
use Rattle.std.specs.List.{list_all}
use Rattle.std.proofs.lemmas.Bool.{and_parts}
use Rattle.lily_writer.specs.Pitches.{lily_pitch}
use Rattle.lily_writer.specs.Words.{is_letter, is_lily_pitch_byte, word_key}
use Rattle.rhythm_base.proofs.NumbersBelow.{all_below, one_below}
use Rattle.text_words.proofs.ReadKeys.{read_key, is_key}

-- it is of the bytes of pitches, and its first one is a letter that begins no rest
abbrev pub is_pitch : List ℕ → Bool
is_pitch [] = false
is_pitch (b ∷ bs) = (is_letter b && not (b == 114)) && list_all is_lily_pitch_byte (b ∷ bs)

abbrev is_read_pitch : Bool → ℕ → Bool
is_read_pitch flats k = is_key k (word_key (lily_pitch flats k)) && is_pitch (lily_pitch flats k)

with_sharps : all_below (is_read_pitch false) 128 ≡ true
unfolding word_key is_key
with_sharps = refl

with_flats : all_below (is_read_pitch true) 128 ≡ true
unfolding word_key is_key
with_flats = refl

all_of : (flats : Bool) (k : ℕ) → k < 128 → is_read_pitch flats k ≡ true
all_of true k within = one_below (is_read_pitch true) 128 k with_flats within
all_of false k within = one_below (is_read_pitch false) 128 k with_sharps within

pub pitch_read : (flats : Bool) (k : ℕ) → k < 128 → word_key (lily_pitch flats k) ≡ Some k
pitch_read flats k within =
    read_key k (word_key (lily_pitch flats k)) (and_parts (is_key k (word_key (lily_pitch flats k))) (is_pitch (lily_pitch flats k)) (all_of flats k within)).0

pub pitch_is : (flats : Bool) (k : ℕ) → k < 128 → is_pitch (lily_pitch flats k) ≡ true
pitch_is flats k within = (and_parts (is_key k (word_key (lily_pitch flats k))) (is_pitch (lily_pitch flats k)) (all_of flats k within)).1
