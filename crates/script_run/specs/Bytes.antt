-- The lines of the bytes that were read of a script so far, and the limits that they keep.
use Rattle.std.specs.Prelude.{ℕ, ◌-◌, ◌≤◌, List, [], All, length, take, unwrap_or}
use Rattle.rhythm_base.specs.Lists.{last_of}
use Rattle.edit_script.specs.ScriptLines.{between_newlines}
use Rattle.rhythm_base.specs.declared.limits.TheConstants.{LONGEST_SCRIPT, LONGEST_SCRIPT_LINE}

-- the lines that a newline ends
abbrev pub whole_lines : List ℕ → List (List ℕ)
whole_lines bytes = take (length (between_newlines bytes) - 1) (between_newlines bytes)

-- what stands after the last newline: a line that was begun
abbrev pub begun_line : List ℕ → List ℕ
begun_line bytes = unwrap_or (last_of (between_newlines bytes)) []

-- neither a line nor the script is too long
pub record IsWithinLimits (bytes : List ℕ) : Type 0 where
  pub lines : All (λ line. length line ≤ LONGEST_SCRIPT_LINE) (between_newlines bytes)
  pub script : length bytes ≤ LONGEST_SCRIPT
