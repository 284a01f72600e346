-- What stands in the spines after some lines, and what is known of a spine there. The lines before stand last first, and so
-- do the items of a column.
use Rattle.std.specs.Prelude.{◌≡◌, ◌<◌, ◌≤◌, ℕ, suc, ◌+◌, ◌*◌, ◌/◌, Bool, true, false, ◌||◌, not, if◌then◌else◌, List, [], ◌∷◌, length, fold, map, replicate, sum_by, take_while, Option, Some, None}
use Rattle.std.specs.List.{flat_map, zip}
use Rattle.durations.specs.declared.grid.TheConstants.{MOST_GRID}
use Rattle.durations.specs.declared.value.Value.{Value}
use Rattle.durations.specs.Value.{value_grid, width}
use Rattle.kern_reader.specs.declared.line.KernLine.{KernLine}
use Rattle.kern_reader.specs.declared.line.KernLine.TheVariants.{Heading, Signature, Ending, Barline, LastBarline, Data}
use Rattle.kern_reader.specs.declared.line.Stage.{Stage}
use Rattle.kern_reader.specs.declared.line.Stage.TheVariants as stage
use Rattle.kern_reader.specs.declared.spine.Spine.{Spine}
use Rattle.kern_reader.specs.declared.token.TieMark.{TieMark}
use Rattle.kern_reader.specs.declared.token.TieMark.TheVariants.{Absent, GoesOn, Ends}
use Rattle.kern_reader.specs.declared.token.Token.{Token}
use Rattle.kern_reader.specs.declared.token.Token.TheVariants as token
use Rattle.kern_reader.specs.declared.token.Writing.{Writing}
use Rattle.text_words.specs.Divisors.{gcd}
use Rattle.text_words.specs.declared.time_signature.TimeSignature.{TimeSignature}

-- ---- the grid: the least common multiple of the parts in which values count

abbrev pub lcm : ℕ → ℕ → ℕ
lcm a b = a * (b / gcd a b)

abbrev pub token_values : Token → List Value
token_values (token.Bar signature) = []
token_values token.Null = []
token_values (token.Rest value) = value ∷ []
token_values (token.Grace keys) = []
token_values (token.Chord writing keys) = writing.value ∷ []

abbrev pub line_values : KernLine → List Value
line_values (Data tokens) = flat_map token_values tokens
line_values _ = []

abbrev pub grid_with : ℕ → List Value → ℕ
grid_with grid values = fold (λ g v. lcm g (value_grid v)) grid values

-- the grid with these values, where it is fine enough for them and not too fine
abbrev pub IsGridWith : ℕ → List Value → Option ℕ → Type 0
IsGridWith grid values None = MOST_GRID < grid_with grid values
IsGridWith grid values (Some finer) = (finer ≡ grid_with grid values) × (finer ≤ MOST_GRID)

-- of all values of the lines
abbrev pub grid_of : List KernLine → ℕ
grid_of [] = 1
grid_of (line ∷ before) = grid_with (grid_of before) (line_values line)

-- ---- signatures and stages

-- the signature that was said last
abbrev pub announced : List KernLine → Option TimeSignature
announced [] = None
announced (Signature signature ∷ before) = Some signature
announced (_ ∷ before) = announced before

-- the signature of the bar that has begun: a signature counts from the next barline
abbrev pub current_bar : List KernLine → Option TimeSignature
current_bar [] = None
current_bar (Barline ∷ before) = announced before
current_bar (_ ∷ before) = current_bar before

-- the line right before decides: after the last barline only the end may follow, and nothing after it
abbrev pub stage_after : KernLine → Stage
stage_after LastBarline = stage.Last
stage_after Ending = stage.Over
stage_after _ = stage.Body

abbrev pub stage_of : List KernLine → Stage
stage_of [] = stage.Head
stage_of (line ∷ before) = stage_after line

-- ---- the columns of the lines

abbrev pub add_token : Token × List Token → List Token
add_token pair = pair.0 ∷ pair.1

abbrev pub add_bar : Option TimeSignature → List Token → List Token
add_bar None column = column
add_bar (Some signature) column = token.Bar signature ∷ column

abbrev pub columns_of : List KernLine → List (List Token)
columns_of [] = []
columns_of (Heading spines ∷ before) = replicate spines []
columns_of (Data tokens ∷ before) = map add_token (zip tokens (columns_of before))
columns_of (Barline ∷ before) = map (add_bar (announced before)) (columns_of before)
columns_of (_ ∷ before) = columns_of before

-- ---- what is known of a spine

abbrev pub is_bar : Token → Bool
is_bar (token.Bar signature) = true
is_bar _ = false

abbrev pub has_value : Token → Bool
has_value (token.Bar signature) = false
has_value token.Null = false
has_value (token.Rest value) = true
has_value (token.Grace keys) = false
has_value (token.Chord writing keys) = true

-- the place that a spine has reached in its bar: the values since the last barline, in parts of 1/grid of a whole note
abbrev pub place : ℕ → List Token → ℕ
place grid column = sum_by (width grid) (flat_map token_values (take_while (λ t. not (is_bar t)) column))

abbrev pub grace_keys : Token → List ℕ
grace_keys (token.Grace keys) = keys ∷ []
grace_keys _ = []

-- the grace chords since the last value or barline, last first
abbrev pub waiting : List Token → List ℕ
waiting column = flat_map grace_keys (take_while (λ t. not (is_bar t || has_value t)) column)

abbrev pub marks_tie : TieMark → Bool
marks_tie Absent = false
marks_tie GoesOn = true
marks_tie Ends = true

abbrev pub tie_goes_on : TieMark → Bool
tie_goes_on Absent = false
tie_goes_on GoesOn = true
tie_goes_on Ends = false

-- a value continues a tie where it has an underscore or a closing bracket
abbrev pub continues : Writing → Bool
continues writing = marks_tie writing.tie

-- and leaves one open where it has an opening bracket or an underscore
abbrev pub is_left_open : Writing → Bool
is_left_open writing = writing.opens || tie_goes_on writing.tie

-- the keys of the tie that the last value left open
abbrev pub open_keys : List Token → Option ℕ
open_keys [] = None
open_keys (token.Bar signature ∷ column) = open_keys column
open_keys (token.Null ∷ column) = open_keys column
open_keys (token.Grace keys ∷ column) = open_keys column
open_keys (token.Rest value ∷ column) = None
open_keys (token.Chord writing keys ∷ column) = if is_left_open writing then Some keys else None

abbrev pub spine_at : ℕ → List Token → Spine
spine_at grid column = record { place = place grid column; tied = open_keys column; graces = length (waiting column) }

abbrev pub spines_of : List KernLine → List Spine
spines_of before = map (spine_at (grid_of before)) (columns_of before)

-- at its beginning
abbrev pub first_spine : Spine
first_spine = record { place = 0; tied = None; graces = 0 }

-- ---- and after one more line

-- a bar begins
abbrev pub at_bar : Spine → Spine
at_bar spine = record spine { place = 0; graces = 0 }

-- the token of the line is added to what is known of a spine
abbrev pub spine_after : ℕ → Spine → Token → Spine
spine_after grid spine (token.Bar signature) = at_bar spine
spine_after grid spine token.Null = spine
spine_after grid spine (token.Rest value) = record { place = width grid value + spine.place; tied = None; graces = 0 }
spine_after grid spine (token.Grace keys) = record spine { graces = suc spine.graces }
spine_after grid spine (token.Chord writing keys) =
    record { place = width grid writing.value + spine.place; tied = if is_left_open writing then Some keys else None; graces = 0 }

-- the grid is so many times finer
abbrev pub rescaled : ℕ → Spine → Spine
rescaled times spine = record spine { place = spine.place * times }

-- both: the tokens of a line are added in all spines, on a grid that has become so many times finer
abbrev pub spines_after : ℕ → ℕ → List Token → List Spine → List Spine
spines_after grid times tokens spines = map (λ pair. spine_after grid (rescaled times pair.1) pair.0) (zip tokens spines)
