-- Each pitch that is written is read as its key.
use Rattle.std.proofs.Common.{◌≡◌, ℕ, Bool, true, false, refl}
use Rattle.durations.specs.Pitch.{pitch}
use Rattle.kern_reader.specs.Tokens.{pitch_key, white_key}
use Rattle.kern_laws.specs.Laws.{PitchesReadBack}
use Rattle.text_words.proofs.ReadKeys.{is_key, read_key}
use Rattle.rhythm_base.proofs.NumbersBelow.{all_below, one_below}

abbrev is_read : Bool → ℕ → Bool
is_read flats k = is_key k (pitch_key (pitch flats k))

with_sharps : all_below (is_read false) 128 ≡ true
unfolding pitch_key white_key is_key
with_sharps = refl

with_flats : all_below (is_read true) 128 ≡ true
unfolding pitch_key white_key is_key
with_flats = refl

pub pitches : PitchesReadBack
pitches true k within = read_key k (pitch_key (pitch true k)) (one_below (is_read true) 128 k with_flats within)
pitches false k within = read_key k (pitch_key (pitch false k)) (one_below (is_read false) 128 k with_sharps within)
