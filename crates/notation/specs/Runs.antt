-- Values and tokens within a bar of at most 64 whole notes, whose places and lengths are small numbers.
use Rattle.std.specs.Prelude.{◌≡◌, ℕ, ◌+◌, ◌*◌, ◌<◌, ◌≤◌, List, [], ◌∷◌}
use Rattle.std.specs.Int.{◌∣◌}
use Rattle.durations.specs.Value.{value_grid, width}
use Rattle.derivation.specs.declared.score.ScoreBar.{ScoreBar}
use Rattle.voice_values.specs.Values.{VoiceValue}
use Rattle.notation.specs.Places.{whole_of}
use Rattle.notation.specs.Tokens.{Token, value_start}

-- a value of a bar, which counts in the parts of a whole note and ends in the bar
pub record IsInBar (resolution : ℕ) (bar : ScoreBar) (v : VoiceValue) : Type 0 where
  pub dots : v.value.dots ≤ 2
  pub grid : value_grid v.value ∣ whole_of resolution
  pub end : value_start bar v + width (whole_of resolution) v.value ≤ 64 * whole_of resolution

-- tokens side by side from one place to another, each of some length and none longer than 8 whole notes
abbrev pub StandBetween : ℕ → ℕ → List Token → ℕ → Type 0
StandBetween resolution from [] to = from ≡ to
StandBetween resolution from (t ∷ ts) to =
    (t.start ≡ from) × (t.start < t.end) × (t.end ≤ t.start + 8 * whole_of resolution) × StandBetween resolution t.end ts to

-- tokens of a bar side by side
pub record AreRun (resolution : ℕ) (tokens : List Token) : Type 0 where
  pub from : ℕ
  pub to : ℕ
  pub stand : StandBetween resolution from tokens to
  pub within : to ≤ 64 * whole_of resolution
