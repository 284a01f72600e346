-- What it is to write records after a text.
use Rattle.rhythm_base.specs.declared.limits.TheConstants.{LONGEST_SCORE}
use Rattle.std.specs.Prelude.{◌≡◌, ℕ, ◌+◌, ◌<◌, ◌≤◌, List, [], ◌∷◌, ◌++◌, length, map, take, MatchResult, Result, ⊤}
use Rattle.std.proofs.Common.{suc}
use Rattle.kern_writer.specs.declared.fault.ScoreFault.{ScoreFault}
use Rattle.kern_writer.specs.declared.fault.ScoreFault.TheVariants.{TooLong, Memory}
use Rattle.kern_writer.specs.declared.kern_text.KernText.{KernText}
use Rattle.kern_writer.specs.Records.{Record, alike}
use Rattle.kern_writer.specs.Text.{records_text}

-- a text is no longer than the longest, and has no more records than bytes
pub record IsBounded (t : KernText) : Type 0 where
  pub lines : t.lines ≤ length t.bytes.items
  pub short : length t.bytes.items ≤ LONGEST_SCORE

-- the records are written after a text
pub record HasWritten (before after : KernText) (records : List Record) : Type 0 where
  pub bytes : after.bytes.items ≡ before.bytes.items ++ records_text records
  pub lines : after.lines ≡ before.lines + length records
  pub bounded : IsBounded after

-- the first of these records that ends past the longest text where they are written after a text is the one of this number
pub record EndsPast (before : KernText) (records : List Record) (line : ℕ) : Type 0 where
  pub count : ℕ
  pub number : line ≡ before.lines + suc count
  pub there : suc count ≤ length records
  pub short : length (before.bytes.items ++ records_text (take count records)) ≤ LONGEST_SCORE
  pub past : LONGEST_SCORE < length (before.bytes.items ++ records_text (take (suc count) records))

abbrev pub IfTooLong : ScoreFault → (ℕ → Type 0) → Type 0
IfTooLong (TooLong line) P = P line
IfTooLong Memory P = ⊤

-- all of the records are written after a text, or one of them ends past the longest, or there was not enough memory
abbrev pub WritesRecords : {X : Type 0} → List Record → KernText → Result X ScoreFault → KernText → Type 0
WritesRecords records before result after = MatchResult result (λ _. HasWritten before after records) (λ e. IfTooLong e (EndsPast before records))

-- the same of some records, which are these
abbrev pub WritesSome : {X : Type 0} → (List Record → Type 0) → KernText → Result X ScoreFault → KernText → Type 0
WritesSome Are before result after = (records : List Record) × Are records × WritesRecords records before result after

-- the same of records, each of one text in all of so many columns
abbrev pub WritesShared : {X : Type 0} → ℕ → List (List ℕ) → KernText → Result X ScoreFault → KernText → Type 0
WritesShared voices texts before result after = WritesRecords (map (alike voices) texts) before result after

-- the pieces of a record that were appended to a text are ended
pub record HasEnded (before after : KernText) : Type 0 where
  pub bytes : after.bytes.items ≡ before.bytes.items ++ 10 ∷ []
  pub lines : after.lines ≡ before.lines + 1
  pub short : length after.bytes.items ≤ LONGEST_SCORE

-- or they end past the longest text
pub record IsPastLongest (before : KernText) (line : ℕ) : Type 0 where
  pub number : line ≡ before.lines + 1
  pub past : LONGEST_SCORE ≤ length before.bytes.items

-- the pieces are ended, or they end past the longest text, or there was not enough memory
abbrev pub EndsRecord : {X : Type 0} → KernText → Result X ScoreFault → KernText → Type 0
EndsRecord before result after = MatchResult result (λ _. HasEnded before after) (λ e. IfTooLong e (IsPastLongest before))

-- the number of the next record after so many, with which the text has so many bytes, or that it ends past the longest text
abbrev pub IsNextLine : ℕ → ℕ → Result ℕ ScoreFault → Type 0
IsNextLine lines bytes result =
    MatchResult result (λ line. (line ≡ lines + 1) × (bytes ≤ LONGEST_SCORE)) (λ e. (e ≡ TooLong (lines + 1)) × (LONGEST_SCORE < bytes))
