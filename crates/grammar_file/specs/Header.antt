-- The first four lines of a grammar file.
use Rattle.rhythm_base.specs.declared.limits.TheConstants.{MOST_UNITS, MOST_UNEQUAL_UNITS, WIDEST_WINDOW, HEAVIEST_ONSET}
use Rattle.std.specs.Prelude.{◌≡◌, ℕ, ◌==◌, ◌&&◌, if◌then◌else◌, List, [], ◌∷◌, Option, Some, None, Result, Ok, Err, codes, slice_get}
use Rattle.std.specs.Str.{bytes_eq}
use Rattle.grammar_file.specs.Content.{Content}
use Rattle.grammar_file.specs.Numbers.{is_numeral, number_within}
use Rattle.grammar_file.specs.Outcome.{◌>>=◌, on_line}
use Rattle.grammar_file.specs.declared.fault.GrammarFault.{GrammarFault}
use Rattle.grammar_file.specs.declared.fault.GrammarWhat.{GrammarWhat}
use Rattle.grammar_file.specs.declared.fault.GrammarWhat.TheVariants as what
use Rattle.grammar_file.specs.declared.header.Header.{Header}
use Rattle.grammar_file.specs.declared.line.Line.{Line}

-- `rhythm 1` or `rhythm 2`, written so
abbrev pub version_of : List (List ℕ) → Result ℕ GrammarWhat
version_of (key ∷ version ∷ []) =
    if bytes_eq key (codes "rhythm") && bytes_eq version (codes "1") then Ok 1
    else if bytes_eq key (codes "rhythm") && bytes_eq version (codes "2") then Ok 2
    else Err what.Header
version_of _ = Err what.Header

-- the number after this word, in its range
abbrev pub said_number : List ℕ → ℕ → ℕ → List (List ℕ) → Result ℕ GrammarWhat
said_number key low high (first ∷ digits ∷ []) =
    if bytes_eq first key then (if is_numeral digits then number_within low high digits else Err what.Line) else Err what.Header
said_number key low high _ = Err what.Header

-- both numbers after this word, each in the range
abbrev pub numbers_of : List ℕ → ℕ → ℕ → List (List ℕ) → Result (ℕ × ℕ) GrammarWhat
numbers_of key low high (first ∷ digits ∷ others ∷ []) =
    if bytes_eq first key then (if is_numeral digits && is_numeral others then (do
      x ← number_within low high digits
      y ← number_within low high others
      Ok (x, y)) else Err what.Line) else Err what.Header
numbers_of key low high _ = Err what.Header

-- the weights of early and of late onsets: version 1 has one for both
abbrev pub weights_of : ℕ → List (List ℕ) → Result (ℕ × ℕ) GrammarWhat
weights_of version words =
    if version == 2 then numbers_of (codes "onset") 0 HEAVIEST_ONSET words
    else (said_number (codes "onset") 0 HEAVIEST_ONSET words >>= λ weight. Ok (weight, weight))

-- the most units of a bar
abbrev pub most_units : ℕ → ℕ
most_units version = if version == 2 then MOST_UNEQUAL_UNITS else MOST_UNITS

-- a line of the header is not there: the fault stands after the last line
abbrev pub missing : ℕ → GrammarFault
missing end = record { line = end; what = what.Header }

-- what a line says, where it is there
abbrev pub line_says : {A : Type 0} → ℕ → (List (List ℕ) → Result A GrammarWhat) → Option Line → Result A GrammarFault
line_says end say (Some line) = on_line line.number (say line.words)
line_says end say None = Err (missing end)

-- no line is left, and this is the fault of one that is not there
abbrev pub IsMissing : Content → GrammarFault → Type 0
IsMissing content fault = (slice_get content.lines 0 ≡ None) × (fault ≡ missing content.end)

-- what the first line says
abbrev pub first_says : {A : Type 0} → Content → (List (List ℕ) → Result A GrammarWhat) → Result A GrammarFault
first_says content say = line_says content.end say (slice_get content.lines 0)

-- what the first four lines say
unfoldable pub header_of : Content → Result Header GrammarFault
header_of content = do
  version ← line_says content.end version_of (slice_get content.lines 0)
  resolution ← line_says content.end (said_number (codes "resolution") 1 (most_units version)) (slice_get content.lines 1)
  window ← line_says content.end (said_number (codes "window") 0 WIDEST_WINDOW) (slice_get content.lines 2)
  weights ← line_says content.end (weights_of version) (slice_get content.lines 3)
  Ok (record { version = version; resolution = resolution; window = window; early = weights.0; late = weights.1 })
