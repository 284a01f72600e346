-- How the answering of a script may end, by the bytes that were read of it and those that out took, whatever a line does. `Steps` says
-- what a line may do, `Quits` which lines end the script, and `start` is the state before the first line. `rest` and `rest'` are what was
-- left of the script before and after, and `taken` and `taken'` what out had taken, where they are told.
use Rattle.std.specs.Prelude.{◌≡◌, ◌≢◌, ℕ, ◌+◌, ◌<◌, ◌⊎◌, List, [], ◌∷◌, ◌++◌, All, length, take, Option}
use Rattle.std.specs.Io.KnownBytes.{Appends, Consumes, IsAtEnd}
use Rattle.script_laws.specs.Script.{Run}
use Rattle.edit_script.specs.ScriptLines.{script_lines}
use Rattle.rhythm_base.specs.declared.limits.TheConstants.{LONGEST_SCRIPT, LONGEST_SCRIPT_LINE}
use Rattle.script_run.specs.Bytes.{IsWithinLimits, begun_line, whole_lines}
use Rattle.script_run.specs.declared.script.TheConstants.{ONE_READ}
use Rattle.script_run.specs.declared.script_stop.ScriptStop.{ScriptStop}
use Rattle.script_run.specs.declared.script_stop.ScriptStop.TheVariants as stop

-- the bytes that follow what is answered so far end a line: the first of them is a newline, or the script is at its end
abbrev pub EndsLine : List ℕ → Option (List ℕ) → List ℕ → Type 0
EndsLine bytes rest' [] = IsAtEnd rest' × (begun_line bytes ≢ [])
EndsLine bytes rest' (byte ∷ more) = (byte ≡ 10) × (length more < ONE_READ) × (length bytes < LONGEST_SCRIPT)

-- a byte after a script of the greatest length
abbrev pub IsOverScript : List ℕ → ℕ → Type 0
IsOverScript bytes byte = length bytes ≡ LONGEST_SCRIPT

-- a byte that is no newline after a line of the greatest length, within the greatest length of a script
abbrev pub IsOverLine : List ℕ → ℕ → Type 0
IsOverLine bytes byte = (length bytes < LONGEST_SCRIPT) × (length (begun_line bytes) ≡ LONGEST_SCRIPT_LINE) × (byte ≢ 10)

module _ {State : Type 0} (Steps : State → List ℕ → List ℕ → State → Type 0) (Quits : List ℕ → Type 0) (start : State) where
  -- the whole lines of the bytes are answered, and none of them ends the script
  pub record AreAnswered (bytes replies : List ℕ) (last : State) : Type 0 where
    pub within : IsWithinLimits bytes
    pub unended : All (λ line. Quits line → ⊥) (whole_lines bytes)
    pub answers : Run Steps Quits start (whole_lines bytes) replies last

  -- The script was read to its end, and each of its lines is answered
  pub record IsReadOut (rest rest' taken taken' : Option (List ℕ)) (last : State) : Type 0 where
    pub bytes : List ℕ
    pub read : Consumes rest rest' bytes
    pub end : IsAtEnd rest'
    pub within : IsWithinLimits bytes
    pub unended : All (λ line. Quits line → ⊥) (whole_lines bytes)
    pub replies : List ℕ
    pub answers : Run Steps Quits start (script_lines bytes) replies last
    pub written : Appends taken taken' replies

  -- A line that ends the script is answered, and none before it does that; the few bytes that were read after its newline are not looked at
  pub record IsQuit (rest rest' taken taken' : Option (List ℕ)) (last : State) : Type 0 where
    pub bytes : List ℕ
    pub more : List ℕ
    pub read : Consumes rest rest' (bytes ++ 10 ∷ more)
    pub few : length more < ONE_READ
    pub room : length bytes < LONGEST_SCRIPT
    pub before : List ℕ
    pub state : State
    pub answered : AreAnswered bytes before state
    pub reply : List ℕ
    pub answer : Steps state (begun_line bytes) reply last
    pub quits : Quits (begun_line bytes)
    pub written : Appends taken taken' (before ++ reply)

  -- the script is answered to its end, or to a line that ends it
  abbrev pub IsAnswered : Option (List ℕ) → Option (List ℕ) → Option (List ℕ) → Option (List ℕ) → State → Type 0
  IsAnswered rest rest' taken taken' last = IsReadOut rest rest' taken taken' last ⊎ IsQuit rest rest' taken taken' last

  -- out took the replies to the lines before, and of the reply to the next line a first part and not all
  pub record IsCut (rest rest' taken taken' : Option (List ℕ)) (last : State) : Type 0 where
    pub bytes : List ℕ
    pub more : List ℕ
    pub read : Consumes rest rest' (bytes ++ more)
    pub ends : EndsLine bytes rest' more
    pub before : List ℕ
    pub state : State
    pub answered : AreAnswered bytes before state
    pub reply : List ℕ
    pub answer : Steps state (begun_line bytes) reply last
    pub sent : ℕ
    pub part : sent < length reply
    pub written : Appends taken taken' (before ++ take sent reply)

  -- What was read ends before a byte that comes one too many: out took the replies to all whole lines before it
  pub record IsOverLimit (rest rest' taken taken' : Option (List ℕ)) (last : State) (IsOver : List ℕ → ℕ → Type 0) : Type 0 where
    pub bytes : List ℕ
    pub byte : ℕ
    pub more : List ℕ
    pub read : Consumes rest rest' (bytes ++ byte ∷ more)
    pub few : length more < ONE_READ
    pub replies : List ℕ
    pub answered : AreAnswered bytes replies last
    pub over : IsOver bytes byte
    pub written : Appends taken taken' replies

  -- a read failed: out took the replies to all whole lines before
  pub record IsBroken (rest rest' taken taken' : Option (List ℕ)) (last : State) : Type 0 where
    pub bytes : List ℕ
    pub read : Consumes rest rest' bytes
    pub replies : List ℕ
    pub answered : AreAnswered bytes replies last
    pub written : Appends taken taken' replies

  -- the answering of a script stopped, and how far it came
  abbrev pub IsStoppedBy : ScriptStop → Option (List ℕ) → Option (List ℕ) → Option (List ℕ) → Option (List ℕ) → State → Type 0
  IsStoppedBy stop.Read rest rest' taken taken' last = IsBroken rest rest' taken taken' last
  IsStoppedBy (stop.TooLong read) rest rest' taken taken' last = (read ≡ LONGEST_SCRIPT + 1) × IsOverLimit rest rest' taken taken' last IsOverScript
  IsStoppedBy (stop.LineTooLong read) rest rest' taken taken' last = (read ≡ LONGEST_SCRIPT_LINE + 1) × IsOverLimit rest rest' taken taken' last IsOverLine
  IsStoppedBy stop.Write rest rest' taken taken' last = IsCut rest rest' taken taken' last
  IsStoppedBy stop.Memory rest rest' taken taken' last = (last ≡ start) × (rest' ≡ rest) × (taken' ≡ taken)
