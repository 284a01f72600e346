-- The voices as they are read bar by bar, and the tokens of each in a bar.
use Rattle.std.specs.Prelude.{◌≡◌, ℕ, ◌≤◌, List, All, Option, map, sum}
use Rattle.rhythm_base.specs.declared.sound.Sound.{Sound}
use Rattle.derivation.specs.declared.score.ScoreBar.{ScoreBar}
use Rattle.kern_writer.specs.Columns.{AreTokens}
use Rattle.kern_writer.specs.Records.{AreBarRecords, Record}
use Rattle.kern_writer.specs.Tokens.{Token}
use Rattle.rhythm_base.specs.Lists.{Each}
use Rattle.derivation.specs.Ahead.{later_sounds, own_sounds}
use Rattle.voice_values.specs.Ahead.{begins_with_tie}

-- the tokens of the bar: its last value goes on where the next bar begins with a tie
abbrev pub AreTokensAhead : ℕ → ScoreBar → ℕ → List Sound → List Token → Type 0
AreTokensAhead resolution bar n sounds tokens = AreTokens resolution bar (begins_with_tie (later_sounds n sounds)) (own_sounds n sounds) tokens

-- the sounds of a voice in the bar that was read last, and those after it
pub record VoiceAhead : Type 0 where
  pub own : List Sound
  pub later : List Sound

-- the sounds of each voice after that bar
abbrev pub laters : List VoiceAhead → List (List Sound)
laters voices = map (λ a. a.later) voices

-- the voice when bar n is read
abbrev pub bar_read : ℕ → VoiceAhead → VoiceAhead
bar_read n a = record { own = own_sounds n a.later; later = later_sounds n a.later }

-- the sounds fill the bar that was read last
pub record IsFilled (resolution : ℕ) (a : VoiceAhead) : Type 0 where
  pub some : All (λ s. 1 ≤ s.width) a.own
  pub full : sum (map (λ s. s.width) a.own) ≡ resolution

-- the tokens of that bar
abbrev pub AreTokensRead : ℕ → ScoreBar → VoiceAhead → List Token → Type 0
AreTokensRead resolution bar a tokens = AreTokens resolution bar (begins_with_tie a.later) a.own tokens

-- the records of bar n, the next of the voices
abbrev pub AreOfBar : ℕ → Option ScoreBar → ScoreBar → ℕ → List VoiceAhead → List Record → Type 0
AreOfBar resolution before bar n voices records =
    (columns : List (List Token)) × Each (AreTokensAhead resolution bar n) (laters voices) columns × AreBarRecords before bar n columns records
