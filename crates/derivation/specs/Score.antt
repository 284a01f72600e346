-- What contracts see of a score, and what a score that can be written keeps.
use Rattle.rhythm_base.specs.declared.limits.TheConstants.{MOST_UNITS, MOST_VOICES, SLOWEST_TEMPO}
use Rattle.std.specs.Prelude.{ℕ, ℤ, pos, negsuc, ◌≤ℤ◌, ◌≤◌, List, length, All, IfSome}
use Rattle.rhythm_base.specs.declared.sound.Sound.{Sound}
use Rattle.rhythm_base.specs.Signatures.{IsSignature}
use Rattle.derivation.specs.WellSounded.{AreWellSounded}
use Rattle.derivation.specs.declared.score.ScoreBar.{ScoreBar}

pub record Score : Type 0 where
  pub resolution : ℕ
  pub bars : List ScoreBar
  pub voices : List (List Sound)

-- seven flats to seven sharps
pub record IsKeySignature (sf : ℤ) : Type 0 where
  pub low : negsuc 6 ≤ℤ sf
  pub high : sf ≤ℤ pos 7

pub record IsScoreBar (bar : ScoreBar) : Type 0 where
  pub signature : IsSignature bar.num bar.den
  pub some_tempo : 1 ≤ bar.tempo
  pub few_tempo : bar.tempo ≤ SLOWEST_TEMPO
  pub key : IfSome bar.sf IsKeySignature

-- 1 to 16 voices, each with sounds like those of a derivation over the bars
pub record IsScore (s : Score) : Type 0 where
  pub some_unit : 1 ≤ s.resolution
  pub few_units : s.resolution ≤ MOST_UNITS
  pub bars : All IsScoreBar s.bars
  pub some_voice : 1 ≤ length s.voices
  pub few_voices : length s.voices ≤ MOST_VOICES
  pub voices : All (AreWellSounded s.resolution (length s.bars)) s.voices
