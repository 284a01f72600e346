-- The laws, each as one statement over the definitions.
use Rattle.std.specs.Prelude.{◌≡◌, ℕ, ◌≤◌, List}
use Rattle.rhythm_base.specs.declared.sound.Sound.{Sound}
use Rattle.derivation.specs.declared.score.ScoreBar.{ScoreBar}
use Rattle.derivation.specs.Score.{IsScoreBar}
use Rattle.voice_values.specs.Values.{AreBarValues, VoiceValue}

-- the sounds of a bar of r units have values ..
abbrev pub BarValuesExist : Type 0
BarValuesExist = (r : ℕ) (bar : ScoreBar) (sounds : List Sound) → 1 ≤ r → IsScoreBar bar → (vs : List VoiceValue) × AreBarValues r bar sounds vs

-- .. and one list of them
abbrev pub BarValuesAreOne : Type 0
BarValuesAreOne =
    (r : ℕ) (bar : ScoreBar) (sounds : List Sound) (vs us : List VoiceValue)
    → 1 ≤ r → IsScoreBar bar → AreBarValues r bar sounds vs → AreBarValues r bar sounds us → vs ≡ us
