-- What a text comes to: its lines, or its first line with a fault.
use Rattle.std.specs.Prelude.{◌≡◌, ◌≢◌, ◌≤◌, ℕ, suc, ◌+◌, ◌-◌, false, true, slice_index_or, length, if◌then◌else◌, List, [], ◌∷◌, Option, Some, None, Result, Ok, Err}
use Rattle.kern_reader.specs.declared.fault.KernFault.{KernFault}
use Rattle.kern_reader.specs.declared.fault.KernWhat.{KernWhat}
use Rattle.kern_reader.specs.declared.fault.KernWhat.TheVariants as what
use Rattle.kern_reader.specs.declared.line.KernLine.{KernLine}
use Rattle.kern_reader.specs.declared.line.Stage.{Stage}
use Rattle.kern_reader.specs.declared.line.Stage.TheVariants as stage
use Rattle.kern_reader.specs.declared.reading.Reading.{Reading}
use Rattle.kern_reader.specs.Columns.{stage_of}
use Rattle.kern_reader.specs.Faults.{line_fault}
use Rattle.kern_reader.specs.Lines.{line_of, takes_memory}
use Rattle.kern_reader.specs.Reading.{IsReading}
use Rattle.kern_reader.specs.Score.{KernColumns, score_columns}
use Rattle.kern_reader.specs.Text.{is_skipped}
use Rattle.text_words.specs.Lines.{text_lines}

-- a text has a head, and ends with the end of its spines
abbrev pub at_end : Stage → ℕ → List KernLine → Result (List KernLine) KernFault
at_end stage.Head line before = Err (record { line = 1; what = what.Head })
at_end stage.Body line before = Err (record { line = line; what = what.End })
at_end stage.Last line before = Err (record { line = line; what = what.End })
at_end stage.Over line before = Ok before

abbrev pub or_fault : ℕ → Option KernWhat → Result (List KernLine) KernFault → Result (List KernLine) KernFault
or_fault number None more = more
or_fault number (Some what) more = Err (record { line = number; what = what })

-- Lines from this number on, after those before them: all lines that say something, last first, or the first line with a fault
abbrev pub read_from : List KernLine → ℕ → List (List ℕ) → Result (List KernLine) KernFault
read_from before number [] = at_end (stage_of before) number before
read_from before number (text ∷ texts) =
    if is_skipped text then read_from before (suc number) texts
    else or_fault number (line_fault before text) (read_from (line_of text ∷ before) (suc number) texts)

abbrev pub read_text : List ℕ → Result (List KernLine) KernFault
read_text text = read_from [] 1 (text_lines text)

-- the score that a text says, or its fault
abbrev pub scored : Result (List KernLine) KernFault → Result KernColumns KernFault
scored (Ok lines) = Ok (score_columns lines)
scored (Err fault) = Err fault

abbrev pub score_of : List ℕ → Result KernColumns KernFault
score_of text = scored (read_text text)

-- what a reader returned is what the text comes to, unless memory ran out
abbrev pub GivesKern : Result KernColumns KernFault → Result KernColumns KernFault → Type 0
GivesKern (Ok score) outcome = outcome ≡ Ok score
GivesKern (Err fault) outcome = fault.what ≢ what.Memory → outcome ≡ Err fault

-- a line of the text, counted from 1, or the one after the last
abbrev pub IsLineOrNext : List ℕ → ℕ → Type 0
IsLineOrNext text line = (1 ≤ line) × (line ≤ length (text_lines text) + 1)

-- ---- on the way through the lines

-- the line of this number is read, and those after it come to what they come to with it ..
abbrev pub GoesOn : ℕ → List ℕ → Reading → Reading → Type 0
GoesOn number text old new =
    (before : List KernLine) (texts : List (List ℕ)) → IsReading number before old
    → (after : List KernLine) × IsReading (number + 1) after new × (read_from before number (text ∷ texts) ≡ read_from after (number + 1) texts)

-- .. or it is the first with a fault
abbrev pub StopsAt : ℕ → List ℕ → Reading → KernFault → Type 0
StopsAt number text old fault =
    (before : List KernLine) (texts : List (List ℕ)) → IsReading number before old → read_from before number (text ∷ texts) ≡ Err fault

-- what is returned where no line is left, before the line of this number
abbrev pub GivesAtEnd : ℕ → Reading → Result KernColumns KernFault → Type 0
GivesAtEnd number r result = (before : List KernLine) → IsReading number before r → GivesKern result (scored (at_end (stage_of before) number before))

-- a line, counted from 1, for which memory can be wanting as it is read: it is no comment, no line before it has a fault, and
-- it takes memory
pub record IsLineToRead (text : List ℕ) (line : ℕ) : Type 0 where
  pub some : 1 ≤ line
  pub there : line ≤ length (text_lines text)
  pub said : is_skipped (slice_index_or (text_lines text) (line - 1) []) ≡ false
  pub takes : takes_memory (line_of (slice_index_or (text_lines text) (line - 1) [])) ≡ true
  pub first : (fault : KernFault) → read_text text ≡ Err fault → line ≤ fault.line
