-- Tokens, computed by the definition.
use Rattle.std.specs.Prelude.{◌≡◌, ℕ, ◌+◌, ◌^◌, pos, negsuc, Bool, true, false, List, [], ◌∷◌, codes, refl, Some}
use Rattle.rhythm_base.specs.declared.sound.Sound.{Sound}
use Rattle.rhythm_base.specs.declared.sound.SoundKind.{SoundKind}
use Rattle.rhythm_base.specs.declared.sound.SoundKind.TheVariants.{Begin, Short, Tie, Rest}
use Rattle.durations.specs.declared.value.Recip.{Recip}
use Rattle.durations.specs.declared.value.Recip.TheVariants.{Of, Breve, Long}
use Rattle.durations.specs.declared.value.Value.{Value}
use Rattle.std.specs.Fmt.{digits}
use Rattle.kern_writer.specs.Tokens.{Token, bar_tokens, grace_text, value_text}
use Rattle.score_words.specs.Changes.{has_flats}
use Rattle.score_words.specs.Keys.{rising_keys}
use Rattle.voice_values.specs.Values.{VoiceValue}

abbrev value : Recip → ℕ → Value
value recip dots = record { recip = recip; dots = dots }

-- ---- values

dotted : value_text (value (Of 4) 2) ≡ codes "4.."
unfolding digits
dotted = refl

breve : value_text (value Breve 1) ≡ codes "0."
breve = refl

long : value_text (value Long 0) ≡ codes "00"
long = refl

-- ---- keys

outer_keys : rising_keys (2 ^ 127 + 2 ^ 60 + 1) ≡ 0 ∷ 60 ∷ 127 ∷ []
unfolding rising_keys
outer_keys = refl

grace_chord : grace_text true (2 ^ 70 + 2 ^ 60) ≡ codes "qc qb-"
unfolding rising_keys
grace_chord = refl

flats : has_flats (Some (negsuc 0)) ≡ true
flats = refl

no_flats : has_flats (Some (pos 0)) ≡ false
no_flats = refl

-- ---- the tokens of a bar

abbrev sound : ℕ → SoundKind → ℕ → List ℕ → Sound
sound width kind keys graces = record { bar = 0; place = 0; width = width; kind = kind; keys = keys; graces = graces }

abbrev voice_value : ℕ → ℕ → Sound → Bool → VoiceValue
voice_value place recip s first = record { place = place; value = value (Of recip) 0; sound = s; first = first }

abbrev token : ℕ → List (List ℕ) → List ℕ → Token
token place graces main = record { place = place; graces = graces; main = main }

-- a leaf of two values: 5/4 of a whole note
two_values : bar_tokens false (voice_value 0 1 (sound 1 Begin (2 ^ 60) []) true ∷ voice_value 4 4 (sound 1 Begin (2 ^ 60) []) false ∷ []) []
    ≡ token 0 [] (codes "[1c") ∷ token 4 [] (codes "4c]") ∷ []
unfolding digits rising_keys
two_values = refl

-- a grace chord before a span of four values, with the middle mark
grace_and_middles : bar_tokens false
    (voice_value 0 8 (sound 1 Begin (2 ^ 64) (2 ^ 60 ∷ [])) true ∷ voice_value 4 8 (sound 1 Tie (2 ^ 64) []) true
    ∷ voice_value 8 4 (sound 2 Tie (2 ^ 64) []) true ∷ voice_value 16 2 (sound 4 Tie (2 ^ 64) []) true ∷ []) []
    ≡ token 0 (codes "qc" ∷ []) (codes "[8e") ∷ token 4 [] (codes "8e_") ∷ token 8 [] (codes "4e_") ∷ token 16 [] (codes "2e]") ∷ []
unfolding digits rising_keys
grace_and_middles = refl

-- over a barline: the next bar begins with a tie
over_a_barline : bar_tokens true (voice_value 0 1 (sound 1 Begin (2 ^ 46) []) true ∷ []) (voice_value 0 1 (sound 1 Tie (2 ^ 46) []) true ∷ [])
    ≡ token 0 [] (codes "[1BB-") ∷ []
unfolding digits rising_keys
over_a_barline = refl

-- a short leaf of two values is marked at its first, and a rest has no tie
short_and_rest : bar_tokens false
    (voice_value 0 1 (sound 5 Short (2 ^ 60 + 2 ^ 64) []) true ∷ voice_value 4 4 (sound 5 Short (2 ^ 60 + 2 ^ 64) []) false
    ∷ voice_value 5 1 (sound 5 Rest 0 []) true ∷ voice_value 9 4 (sound 5 Rest 0 []) false ∷ []) []
    ≡ token 0 [] (codes "[1c' [1e'") ∷ token 4 [] (codes "4c] 4e]") ∷ token 5 [] (codes "1r") ∷ token 9 [] (codes "4r") ∷ []
unfolding digits rising_keys
short_and_rest = refl

-- a tie of two values within one leaf goes on at both
tie_of_two : bar_tokens false (voice_value 0 1 (sound 5 Tie (2 ^ 60) []) true ∷ voice_value 4 4 (sound 5 Tie (2 ^ 60) []) false ∷ []) []
    ≡ token 0 [] (codes "1c_") ∷ token 4 [] (codes "4c]") ∷ []
unfolding digits rising_keys
tie_of_two = refl
