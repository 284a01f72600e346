-- What a writer of events is handed besides the events.
use Rattle.rhythm_base.specs.declared.limits.TheConstants.{MOST_UNITS, MOST_VOICES}
use Rattle.std.specs.Prelude.{ℕ, ◌^◌, ◌≤◌, All, List, length}
use Rattle.derivation.specs.declared.score.ScoreBar.{ScoreBar}
use Rattle.derivation.specs.Score.{IsScoreBar}

-- 1 to 16 voices over at most 2^32 bars, as many as the sounds of a score can number
pub record IsWritable (resolution : ℕ) (bars : List ScoreBar) (voices : ℕ) : Type 0 where
  pub some_unit : 1 ≤ resolution
  pub few_units : resolution ≤ MOST_UNITS
  pub each_bar : All IsScoreBar bars
  pub few_bars : length bars ≤ 2 ^ 32
  pub some_voice : 1 ≤ voices
  pub few_voices : voices ≤ MOST_VOICES
