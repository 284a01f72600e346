-- The groups of the values of a voice: the values are those of its **kern column, and go on where they do there.
use Rattle.std.specs.Prelude.{◌≡◌, ℕ, List, [], ◌∷◌}
use Rattle.std.specs.List.{flat_map}
use Rattle.rhythm_base.specs.Lists.{Each}
use Rattle.derivation.specs.declared.score.ScoreBar.{ScoreBar}
use Rattle.voice_values.specs.GoesOn.{next_goes_on}
use Rattle.voice_values.specs.Values.{VoiceValue}
use Rattle.notation.specs.Bars.{grouped}
use Rattle.notation.specs.Notes.{Group, IsGroup}
use Rattle.notation.specs.Places.{IsOddPart}
use Rattle.notation.specs.Tokens.{bar_tokens}

-- the groups of the values of a bar, after which these follow in later bars
abbrev pub AreGroupsOfBar : ℕ → ScoreBar → List VoiceValue → List VoiceValue → List Group → Type 0
AreGroupsOfBar resolution bar values later groups =
    (odd : ℕ) × IsOddPart resolution odd
    × Each (IsGroup resolution odd)
    (grouped resolution odd bar (bar_tokens resolution odd bar (next_goes_on later) values)) groups

-- those of the values of a voice, a list for each bar
abbrev pub AreGroupsOfValues : ℕ → List ScoreBar → List (List VoiceValue) → List (List Group) → Type 0
AreGroupsOfValues resolution [] values all = all ≡ []
AreGroupsOfValues resolution (bar ∷ bars) [] all = ⊥
AreGroupsOfValues resolution (bar ∷ bars) (own ∷ values) [] = ⊥
AreGroupsOfValues resolution (bar ∷ bars) (own ∷ values) (groups ∷ all) =
    AreGroupsOfBar resolution bar own (flat_map (λ vs. vs) values) groups × AreGroupsOfValues resolution bars values all
