-- Which values go on with the span of the value before them, over leaves and barlines.
use Rattle.std.specs.Prelude.{Bool, false, ◌&&◌, ◌||◌, not, List, [], ◌∷◌}
use Rattle.rhythm_base.specs.SoundKinds.{is_rest, is_tie}
use Rattle.voice_values.specs.Values.{VoiceValue}

-- a value goes on with the span of the value before it: it is a second one of a leaf that sounds, or one of a tie
abbrev pub goes_on : VoiceValue → Bool
goes_on v = not (is_rest v.sound.kind) && (is_tie v.sound.kind || not v.first)

-- the next value of the voice goes on
abbrev pub next_goes_on : List VoiceValue → Bool
next_goes_on [] = false
next_goes_on (v ∷ vs) = goes_on v

-- the same, where the values after these go on or not
abbrev pub next_in_column : Bool → List VoiceValue → Bool
next_in_column after [] = after
next_in_column after (v ∷ vs) = goes_on v
