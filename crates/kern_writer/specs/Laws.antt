-- The laws, each as one statement over the definitions.
use Rattle.rhythm_base.specs.declared.limits.TheConstants.{LONGEST_SCORE}
use Rattle.std.specs.Prelude.{◌≡◌, ℕ, ◌≤◌, ◌⊎◌, List, length, Result}
use Rattle.derivation.specs.Score.{IsScore, Score}
use Rattle.kern_writer.specs.PerformanceText.{HasTooLongText, IsKernTextOf, IsTextOf, IsWrittenScore}
use Rattle.kern_writer.specs.Text.{IsScoreText, IsTooLong}
use Rattle.rhythm_base.specs.Grammar.{Grammar}
use Rattle.rhythm_base.specs.Performance.{IsWellFormed, Performance}
use Rattle.rhythm_base.specs.Readable.{IsReadable}

-- a score has at most one text, and at most one first record past the longest text, where that is longer
pub record TextsAreOne : Type 0 where
  pub text : (s : Score) (a b : List ℕ) → IsScore s → IsScoreText s a → IsScoreText s b → a ≡ b
  pub too_long : (s : Score) (a b : ℕ) → IsScore s → IsTooLong s a → IsTooLong s b → a ≡ b
  pub either : (s : Score) (text : List ℕ) (line : ℕ) → IsScore s → IsScoreText s text → length text ≤ LONGEST_SCORE → IsTooLong s line → ⊥

-- what is written of a performance by a readable grammar is one: it has at most one text, at most one first record past the limit, and
-- where its text is within the limit no such record
pub record PerformanceTextsAreOne : Type 0 where
  pub text : (g : Grammar) (p : Performance) (a b : List ℕ) → IsReadable g → IsWellFormed p → IsTextOf g p a → IsTextOf g p b → a ≡ b
  pub too_long : (g : Grammar) (p : Performance) (a b : ℕ) → IsReadable g → IsWellFormed p → HasTooLongText g p a → HasTooLongText g p b → a ≡ b
  pub either : (g : Grammar) (p : Performance) (text : List ℕ) (line : ℕ) → IsReadable g → IsWellFormed p → IsKernTextOf g p text
      → HasTooLongText g p line → ⊥
  pub written : (g : Grammar) (p : Performance) (a b : Result (List ℕ) ℕ) → IsReadable g → IsWellFormed p → IsWrittenScore g p a
      → IsWrittenScore g p b → a ≡ b

-- each score has a text, which is no longer than the longest, or has a first record that ends past that
pub record TextsExist : Type 0 where
  pub text : (s : Score) → IsScore s → (text : List ℕ) × IsScoreText s text
  pub short_or_too_long : (s : Score) → IsScore s
      → ((text : List ℕ) × IsScoreText s text × (length text ≤ LONGEST_SCORE)) ⊎ ((line : ℕ) × IsTooLong s line)
