-- The values of a voice, bar after bar, each with the sound that it is written for.
use Rattle.std.specs.Prelude.{◌≡◌, ℕ, ◌*◌, ◌==◌, Bool, true, not, List, [], ◌∷◌, ◌++◌, filter, map, slice_get, Option, Some, None}
use Rattle.std.proofs.Common.{suc}
use Rattle.rhythm_base.specs.declared.sound.Sound.{Sound}
use Rattle.durations.specs.declared.joined.Timed.{Timed}
use Rattle.durations.specs.declared.joined.Written.{Written}
use Rattle.durations.specs.declared.value.Value.{Value}
use Rattle.durations.specs.Joined.{AreWritten}
use Rattle.derivation.specs.declared.score.ScoreBar.{ScoreBar}

-- A value of a voice: the place in its bar at which it begins, in parts of 1/(resolution * den) of a whole note; the value; the
-- leaf that it is a value of, the first one where several are joined; and whether it is that leaf's first
pub record VoiceValue : Type 0 where
  pub place : ℕ
  pub value : Value
  pub sound : Sound
  pub first : Bool

-- a leaf of `width` units of a bar in num/den is width * num / (resolution * den) of a whole note
abbrev pub timed : ScoreBar → Sound → Timed
timed bar s = record { len = s.width * bar.num; kind = s.kind }

-- the value before is not one of the same leaf
abbrev pub is_first : Option ℕ → ℕ → Bool
is_first None leaf = true
is_first (Some before) leaf = not (before == leaf)

abbrev pub value_of_sound : Option Sound → Bool → Written → List VoiceValue
value_of_sound None first w = []
value_of_sound (Some s) first w = record { place = w.from; value = w.value; sound = s; first = first } ∷ []

-- the values that are written for the sounds of a bar, where the one before them is of the leaf `before`
abbrev pub values_of_sounds : List Sound → Option ℕ → List Written → List VoiceValue
values_of_sounds sounds before [] = []
values_of_sounds sounds before (w ∷ ws) =
    value_of_sound (slice_get sounds w.leaf) (is_first before w.leaf) w ++ values_of_sounds sounds (Some w.leaf) ws

abbrev pub sounds_in_bar : ℕ → List Sound → List Sound
sounds_in_bar n sounds = filter (λ s. s.bar == n) sounds

-- the values of the sounds of a bar
abbrev pub AreBarValues : ℕ → ScoreBar → List Sound → List VoiceValue → Type 0
AreBarValues resolution bar sounds vs =
    (ws : List Written) × AreWritten (resolution * bar.den) (map (timed bar) sounds) ws × (vs ≡ values_of_sounds sounds None ws)

-- the values of a voice in the bars from number n on, a list for each
abbrev pub AreVoiceValues : ℕ → ℕ → List ScoreBar → List Sound → List (List VoiceValue) → Type 0
AreVoiceValues resolution n [] sounds vss = vss ≡ []
AreVoiceValues resolution n (bar ∷ bars) sounds [] = ⊥
AreVoiceValues resolution n (bar ∷ bars) sounds (vs ∷ vss) =
    AreBarValues resolution bar (sounds_in_bar n sounds) vs × AreVoiceValues resolution (suc n) bars sounds vss
