-- Tokens: what stands in the column of a voice at a place at which it has a value.
use Rattle.std.specs.Prelude.{ℕ, Bool, ◌&&◌, not, if◌then◌else◌, List, [], ◌∷◌, ◌++◌, codes, decimal, map, replicate}
use Rattle.std.specs.List.{flat_map, join_with_byte}
use Rattle.durations.specs.Pitch.{pitch}
use Rattle.rhythm_base.specs.SoundKinds.{is_rest, is_short}
use Rattle.durations.specs.declared.value.Recip.{Recip}
use Rattle.durations.specs.declared.value.Recip.TheVariants.{Of, Breve, Long}
use Rattle.durations.specs.declared.value.Value.{Value}
use Rattle.derivation.specs.declared.score.ScoreBar.{ScoreBar}
use Rattle.score_words.specs.Changes.{has_flats}
use Rattle.score_words.specs.Keys.{rising_keys}
use Rattle.voice_values.specs.GoesOn.{goes_on, next_goes_on}
use Rattle.voice_values.specs.Values.{VoiceValue}

-- ---- values and chords

-- 1/n of a whole note is written n, two whole notes 0 and four 00, and each dot after it
abbrev pub recip_text : Recip → List ℕ
recip_text (Of n) = decimal n
recip_text Breve = codes "0"
recip_text Long = codes "00"

abbrev pub value_text : Value → List ℕ
value_text v = recip_text v.recip ++ replicate v.dots 46

-- the notes of a chord, by rising key, with a space between two
abbrev pub chord_text : (ℕ → List ℕ) → ℕ → List ℕ
chord_text note keys = join_with_byte 32 (map note (rising_keys keys))

-- ---- marks

-- the first value of a span of several begins with a bracket
abbrev pub opening : Bool → Bool → List ℕ
opening goes next = if not goes && next then codes "[" else []

-- after the pitch the last value of a span of several has a bracket, and each between the first and the last an underscore
abbrev pub closing : Bool → Bool → List ℕ
closing goes next = if goes then (if next then codes "_" else codes "]") else []

-- the first value of a short leaf is marked
abbrev pub short_mark : VoiceValue → List ℕ
short_mark v = if is_short v.sound.kind && v.first then codes "'" else []

-- ---- tokens

abbrev pub note_text : Bool → VoiceValue → Bool → ℕ → List ℕ
note_text flats v next key =
    opening (goes_on v) next ++ value_text v.value ++ pitch flats key ++ closing (goes_on v) next ++ short_mark v

-- the notes of a value
abbrev pub notes_text : Bool → VoiceValue → Bool → List ℕ
notes_text flats v next = chord_text (note_text flats v next) v.sound.keys

abbrev pub main_text : Bool → VoiceValue → Bool → List ℕ
main_text flats v next =
    if is_rest v.sound.kind then value_text v.value ++ codes "r" else notes_text flats v next

-- a grace chord: each of its notes is a q and its pitch
abbrev pub grace_text : Bool → ℕ → List ℕ
grace_text flats keys = chord_text (λ key. codes "q" ++ pitch flats key) keys

-- a token stands at the place of its value, after the grace chords of the chord that begins there
pub record Token : Type 0 where
  pub place : ℕ
  pub graces : List (List ℕ)
  pub main : List ℕ

abbrev pub graces_before : Bool → VoiceValue → List (List ℕ)
graces_before flats v = if v.first then map (grace_text flats) v.sound.graces else []

abbrev pub token : Bool → VoiceValue → Bool → Token
token flats v next = record { place = v.place; graces = graces_before flats v; main = main_text flats v next }

-- the tokens of a bar, after which the values `later` follow in later bars
abbrev pub bar_tokens : Bool → List VoiceValue → List VoiceValue → List Token
bar_tokens flats [] later = []
bar_tokens flats (v ∷ vs) later = token flats v (next_goes_on (vs ++ later)) ∷ bar_tokens flats vs later

-- the tokens of a voice, a list for each bar
abbrev pub voice_tokens : List ScoreBar → List (List VoiceValue) → List (List Token)
voice_tokens [] vss = []
voice_tokens (bar ∷ bars) [] = []
voice_tokens (bar ∷ bars) (vs ∷ vss) = bar_tokens (has_flats bar.sf) vs (flat_map (λ vs. vs) vss) ∷ voice_tokens bars vss
