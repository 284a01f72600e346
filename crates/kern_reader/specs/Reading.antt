-- The state of a reading, and what it is to add a line to it.
use Rattle.std.specs.Prelude.{◌≡◌, ℕ, suc, ◌*◌, ◌/◌, ◌^◌, ◌<◌, ◌≤◌, All, List, [], ◌∷◌, ◌++◌, length, map, replicate, reverse, Option, Some, None}
use Rattle.std.specs.List.{zip}
use Rattle.kern_reader.specs.declared.fault.KernWhat.{KernWhat}
use Rattle.kern_reader.specs.declared.line.KernLine.{KernLine}
use Rattle.kern_reader.specs.declared.line.KernLine.TheVariants.{Heading, Signature, Barline, Data}
use Rattle.kern_reader.specs.declared.reading.Reading.{Reading}
use Rattle.kern_reader.specs.declared.spine.Spine.{Spine}
use Rattle.text_words.specs.declared.time_signature.TimeSignature.{TimeSignature}
use Rattle.kern_reader.specs.declared.token.Token.{Token}
use Rattle.kern_reader.specs.declared.token.Token.TheVariants as token
use Rattle.kern_reader.specs.Columns.{announced, at_bar, columns_of, current_bar, first_spine, grid_of, spines_after, spines_of, stage_after, stage_of}
use Rattle.kern_reader.specs.Faults.{first_fault, line_fault, said_tests}
use Rattle.kern_reader.specs.Lines.{IsWellLine, line_of}

-- the state after lines that say these, the last first, before the line of this number
pub record IsReading (number : ℕ) (before : List KernLine) (r : Reading) : Type 0 where
  pub spines : r.spines.items ≡ spines_of before
  pub columns : r.columns.items ≡ map reverse (columns_of before)
  pub grid : r.grid ≡ grid_of before
  pub next : r.announced ≡ announced before
  pub bar : r.bar ≡ current_bar before
  pub stage : r.stage ≡ stage_of before
  pub well : All IsWellLine before
  pub fine : grid_of before ≤ 61440
  pub few : length before < number
  pub narrow : length (columns_of before) ≤ 16

-- some lines were read, and their number fits its type
abbrev pub IsUnderWay : Reading → Type 0
IsUnderWay r = (number : ℕ) × (before : List KernLine) × IsReading number before r × (number < 2 ^ 32)

-- ---- one line more

-- the fault of a line by what it says
abbrev pub said_fault : Reading → KernLine → Option KernWhat
said_fault r line = first_fault (said_tests r.stage r.grid r.bar r.announced r.spines.items line)

-- a line with this text has this fault after the lines that were read ..
abbrev pub IsFaultAfter : Reading → List ℕ → KernWhat → Type 0
IsFaultAfter r text what = (number : ℕ) (before : List KernLine) → IsReading number before r → line_fault before text ≡ Some what

-- .. or it has none, and is read too
abbrev pub ReadsLine : List ℕ → Reading → Reading → Type 0
ReadsLine text old new =
    (number : ℕ) (before : List KernLine) → IsReading number before old → (line_fault before text ≡ None) × IsReading (suc number) (line_of text ∷ before) new

abbrev pub barred_spines : Option TimeSignature → List Spine → List Spine
barred_spines None spines = spines
barred_spines (Some signature) spines = map at_bar spines

abbrev pub barred_columns : Option TimeSignature → List (List Token) → List (List Token)
barred_columns None columns = columns
barred_columns (Some signature) columns = map (λ c. c ++ token.Bar signature ∷ []) columns

abbrev pub added_spines : KernLine → ℕ → Reading → List Spine
added_spines (Heading count) grid r = replicate count first_spine
added_spines (Data tokens) grid r = spines_after grid (grid / r.grid) tokens r.spines.items
added_spines Barline grid r = barred_spines r.announced r.spines.items
added_spines _ grid r = r.spines.items

abbrev pub added_columns : KernLine → Reading → List (List Token)
added_columns (Heading count) r = replicate count []
added_columns (Data tokens) r = map (λ p. p.1 ++ p.0 ∷ []) (zip tokens r.columns.items)
added_columns Barline r = barred_columns r.announced r.columns.items
added_columns _ r = r.columns.items

abbrev pub added_next : KernLine → Reading → Option TimeSignature
added_next (Signature signature) r = Some signature
added_next _ r = r.announced

abbrev pub added_bar : KernLine → Reading → Option TimeSignature
added_bar Barline r = r.announced
added_bar _ r = r.bar

-- the line is added, on this grid
pub record Adds (line : KernLine) (finer : ℕ) (old new : Reading) : Type 0 where
  pub spines : new.spines.items ≡ added_spines line finer old
  pub columns : new.columns.items ≡ added_columns line old
  pub grid : new.grid ≡ finer
  pub next : new.announced ≡ added_next line old
  pub bar : new.bar ≡ added_bar line old
  pub stage : new.stage ≡ stage_after line

-- a data line has a token for each spine
abbrev pub HasWidth : KernLine → ℕ → Type 0
HasWidth (Data tokens) spines = length tokens ≡ spines
HasWidth (Heading count) spines = count ≤ 16
HasWidth _ spines = Unit {0}

-- what is known of a spine can be counted on, also where the grid becomes so many times finer
abbrev pub IsCountable : ℕ → Spine → Type 0
IsCountable times s = (s.place * times < 2 ^ 56) × (s.graces < 2 ^ 56)
