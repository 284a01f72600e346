-- The groups of each bar of a voice.
use Rattle.std.specs.Prelude.{◌≡◌, ℕ, Bool, ◌&&◌, true, if◌then◌else◌, List, [], ◌∷◌}
use Rattle.std.proofs.Common.{suc}
use Rattle.rhythm_base.specs.declared.sound.Sound.{Sound}
use Rattle.rhythm_base.specs.Lists.{Each}
use Rattle.derivation.specs.declared.score.ScoreBar.{ScoreBar}
use Rattle.voice_values.specs.Ahead.{begins_with_tie}
use Rattle.voice_values.specs.Values.{AreBarValues, VoiceValue, sounds_in_bar}
use Rattle.notation.specs.Groups.{parted}
use Rattle.notation.specs.Notes.{Group, IsGroup}
use Rattle.notation.specs.Places.{IsOddPart}
use Rattle.notation.specs.Rests.{joined_rests}
use Rattle.notation.specs.Tokens.{Token, bar_tokens, is_silent}

-- no token has keys
abbrev pub are_silent : List Token → Bool
are_silent [] = true
are_silent (t ∷ ts) = is_silent t && are_silent ts

-- the tokens of a bar in groups; a bar of rests alone has none
abbrev pub grouped : ℕ → ℕ → ScoreBar → List Token → List (List Token)
grouped resolution odd bar tokens = if are_silent tokens then [] else parted resolution odd (joined_rests resolution bar tokens)

-- tokens are parted into these groups
abbrev pub AreGroups : ℕ → ℕ → List Token → List Group → Type 0
AreGroups resolution odd tokens groups = Each (IsGroup resolution odd) (parted resolution odd tokens) groups

-- the groups of a bar with these sounds, after which a tie goes on over the barline or none does
abbrev pub AreBarGroups : ℕ → ScoreBar → Bool → List Sound → List Group → Type 0
AreBarGroups resolution bar after sounds groups =
    (values : List VoiceValue) × (odd : ℕ) × AreBarValues resolution bar sounds values × IsOddPart resolution odd
    × Each (IsGroup resolution odd) (grouped resolution odd bar (bar_tokens resolution odd bar after values)) groups

-- the groups of a voice in the bars from number n on, a list for each
abbrev pub AreVoiceGroups : ℕ → ℕ → List ScoreBar → List Sound → List (List Group) → Type 0
AreVoiceGroups resolution n [] sounds all = all ≡ []
AreVoiceGroups resolution n (bar ∷ bars) sounds [] = ⊥
AreVoiceGroups resolution n (bar ∷ bars) sounds (groups ∷ all) =
    AreBarGroups resolution bar (begins_with_tie (sounds_in_bar (suc n) sounds)) (sounds_in_bar n sounds) groups
    × AreVoiceGroups resolution (suc n) bars sounds all
