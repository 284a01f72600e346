-- The text of a performance and a grammar: that of their score.
use Rattle.std.specs.Prelude.{ℕ, ◌≤◌, List, length, Result, Ok, Err}
use Rattle.derivation.specs.PerformanceScore.{IsScoreOf}
use Rattle.derivation.specs.Score.{Score}
use Rattle.rhythm_base.specs.Grammar.{Grammar}
use Rattle.rhythm_base.specs.Performance.{Performance}
use Rattle.rhythm_base.specs.declared.limits.TheConstants.{LONGEST_SCORE}
use Rattle.kern_writer.specs.Text.{IsScoreText, IsTooLong}

-- the text of the score of a performance and a grammar
abbrev pub IsTextOf : Grammar → Performance → List ℕ → Type 0
IsTextOf g p text = (s : Score) × IsScoreOf g p s × IsScoreText s text

-- that text would be longer than the longest, and this record is the first to end past it
abbrev pub HasTooLongText : Grammar → Performance → ℕ → Type 0
HasTooLongText g p line = (s : Score) × IsScoreOf g p s × IsTooLong s line

-- that text, within the limit of a score
abbrev pub IsKernTextOf : Grammar → Performance → List ℕ → Type 0
IsKernTextOf g p text = IsTextOf g p text × (length text ≤ LONGEST_SCORE)

-- what is written of a performance: the text of its score, or the number of the record that would pass the limit of a score
abbrev pub IsWrittenScore : Grammar → Performance → Result (List ℕ) ℕ → Type 0
IsWrittenScore g p (Ok text) = IsKernTextOf g p text
IsWrittenScore g p (Err line) = HasTooLongText g p line
