-- Bars worked out: what is cut, which rests and ties are joined, where brackets begin and end, and the notes of a token.
use Rattle.std.proofs.Common.{◌≡◌, ℕ, Bool, true, false, [], ◌∷◌, None, refl}
use Rattle.rhythm_base.specs.declared.sound.SoundKind.TheVariants.{Begin, Short}
use Rattle.durations.specs.declared.value.Recip.TheVariants.{Of}
use Rattle.durations.specs.declared.value.Value.{Value}
use Rattle.derivation.specs.declared.score.ScoreBar.{ScoreBar}
use Rattle.voice_values.specs.Values.{VoiceValue}
use Rattle.notation.specs.Groups.{parted}
use Rattle.notation.specs.Notes.{joined_ties, token_notes}
use Rattle.notation.specs.Rests.{joined_rests}
use Rattle.notation.specs.Tokens.{Token, value_tokens}

abbrev bar_of : ℕ → ℕ → ScoreBar
bar_of num den = record { num = num; den = den; tempo = 500000; sf = None }

abbrev value : ℕ → ℕ → Value
value n dots = record { recip = Of n; dots = dots }

-- a token of key 0, and a rest
abbrev tied : Bool → ℕ → ℕ → Bool → Token
tied comes start end goes = record { start = start; end = end; keys = 1; graces = []; short = false; comes = comes; goes = goes }

abbrev sounds : ℕ → ℕ → Token
sounds start end = tied false start end false

abbrev rests : ℕ → ℕ → Token
rests start end = record { start = start; end = end; keys = 0; graces = []; short = false; comes = false; goes = false }

-- ---- a dot over the end of a triplet: a third of a half and its half, from the last third of the first half of the bar on

abbrev third : VoiceValue
third = record { place = 16; value = value 6 1; sound = record { bar = 0; place = 4; width = 2; kind = Begin; keys = 1; graces = 2 ∷ [] }; first = true }

cut : value_tokens 12 3 (bar_of 4 4) false third ≡ record (tied false 256 384 true) { graces = 2 ∷ [] } ∷ tied true 384 448 false ∷ []
cut = refl

-- a dot that does not hide the end of one is not cut
abbrev half : VoiceValue
half = record { place = 0; value = value 4 1; sound = record { bar = 0; place = 0; width = 3; kind = Short; keys = 1; graces = [] }; first = true }

whole : value_tokens 12 3 (bar_of 4 4) false half ≡ record (sounds 0 288) { short = true } ∷ []
whole = refl

-- ---- rests: two quarters of 3/4 stay, the second half of 4/4 is one, and so are three eighths of 6/8 from the second beat on

three : joined_rests 24 (bar_of 3 4) (sounds 0 384 ∷ rests 384 768 ∷ rests 768 1152 ∷ []) ≡ sounds 0 384 ∷ rests 384 768 ∷ rests 768 1152 ∷ []
three = refl

four :
    joined_rests 24 (bar_of 4 4) (rests 0 384 ∷ rests 384 576 ∷ sounds 576 768 ∷ rests 768 1152 ∷ rests 1152 1536 ∷ [])
    ≡ rests 0 384 ∷ rests 384 576 ∷ sounds 576 768 ∷ rests 768 1536 ∷ []
unfolding lib.Count.ones
four = refl

six :
    joined_rests 24 (bar_of 6 8) (sounds 0 192 ∷ rests 192 384 ∷ rests 384 576 ∷ rests 576 768 ∷ rests 768 960 ∷ rests 960 1152 ∷ [])
    ≡ sounds 0 192 ∷ rests 192 384 ∷ rests 384 576 ∷ rests 576 1152 ∷ []
unfolding lib.Count.ones
six = refl

-- ---- brackets: one ends where no tuplet follows, else with the quarter, or where no token is more than a third of it

follows :
    parted 24 3 (sounds 0 128 ∷ sounds 128 192 ∷ sounds 192 384 ∷ sounds 384 512 ∷ sounds 512 576 ∷ sounds 576 704 ∷ sounds 704 768 ∷ sounds 768 1152 ∷ [])
    ≡ (sounds 0 128 ∷ sounds 128 192 ∷ []) ∷ (sounds 192 384 ∷ []) ∷ (sounds 384 512 ∷ sounds 512 576 ∷ sounds 576 704 ∷ sounds 704 768 ∷ [])
    ∷ (sounds 768 1152 ∷ []) ∷ []
follows = refl

twice :
    parted 24 3 (sounds 384 448 ∷ sounds 448 512 ∷ sounds 512 576 ∷ sounds 576 640 ∷ sounds 640 704 ∷ sounds 704 768 ∷ [])
    ≡ (sounds 384 448 ∷ sounds 448 512 ∷ sounds 512 576 ∷ []) ∷ (sounds 576 640 ∷ sounds 640 704 ∷ sounds 704 768 ∷ []) ∷ []
twice = refl

one :
    parted 24 3 (sounds 0 128 ∷ sounds 128 192 ∷ sounds 192 256 ∷ sounds 256 384 ∷ sounds 384 448 ∷ [])
    ≡ (sounds 0 128 ∷ sounds 128 192 ∷ sounds 192 256 ∷ sounds 256 384 ∷ []) ∷ (sounds 384 448 ∷ []) ∷ []
one = refl

-- ---- two tied thirds of a quarter are one note under their bracket, and without one they stay

ties : joined_ties 3 1 512 (sounds 0 64 ∷ tied false 64 128 true ∷ tied true 128 192 true ∷ []) ≡ sounds 0 64 ∷ tied false 64 192 true ∷ []
unfolding lib.Count.ones
ties = refl

beats : joined_ties 1 3 256 (tied false 0 192 true ∷ tied true 192 384 false ∷ []) ≡ tied false 0 192 true ∷ tied true 192 384 false ∷ []
beats = refl

-- ---- a short quarter in a bracket of five is a quarter and a sixteenth there, tied, of which the first is marked

five :
    token_notes 1 1024 (record (sounds 64 384) { short = true }) true (value 4 0 ∷ value 16 0 ∷ [])
    ≡ record { duration = 256; value = value 4 0; keys = 1; graces = []; short = true; comes = false; goes = true }
    ∷ record { duration = 64; value = value 16 0; keys = 1; graces = []; short = false; comes = true; goes = false } ∷ []
five = refl
