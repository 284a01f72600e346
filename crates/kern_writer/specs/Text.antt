-- The **kern text of a score.
use Rattle.rhythm_base.specs.declared.limits.TheConstants.{LONGEST_SCORE}
use Rattle.std.specs.Prelude.{◌≡◌, ℕ, ◌-◌, ◌<◌, ◌≤◌, List, [], ◌∷◌, ◌++◌, length, take}
use Rattle.std.specs.List.{flat_map, join_with_byte}
use Rattle.kern_writer.specs.Records.{AreRecords, Record}
use Rattle.derivation.specs.Score.{Score}

-- the columns with a tab between two, and a newline
abbrev pub record_text : Record → List ℕ
record_text columns = join_with_byte 9 columns ++ (10 ∷ [])

abbrev pub records_text : List Record → List ℕ
records_text records = flat_map record_text records

-- the text of the score
abbrev pub IsScoreText : Score → List ℕ → Type 0
IsScoreText s text = (records : List Record) × AreRecords s records × (text ≡ records_text records)

-- the text of the score is longer than the longest, and this is the number, from 1, of the first record that ends past that
pub record IsTooLong (s : Score) (line : ℕ) : Type 0 where
  pub records : List Record
  pub are_records : AreRecords s records
  pub some : 1 ≤ line
  pub there : line ≤ length records
  pub before : length (records_text (take (line - 1) records)) ≤ LONGEST_SCORE
  pub past : LONGEST_SCORE < length (records_text (take line records))
