-- The fault of a line, by the lines before it.
use Rattle.std.specs.Prelude.{ℕ, ◌*◌, Bool, true, false, ◌==◌, ◌&&◌, ◌||◌, not, nat_le, nat_lt, if◌then◌else◌, is_some, is_none, List, [], ◌∷◌, ◌++◌, length, map, Option, Some, None}
use Rattle.std.specs.List.{list_all, list_any, zip}
use Rattle.rhythm_base.specs.Lists.{least_of}
use Rattle.kern_reader.specs.declared.fault.KernWhat.{KernWhat}
use Rattle.kern_reader.specs.declared.fault.KernWhat.TheVariants as what
use Rattle.kern_reader.specs.declared.line.KernLine.{KernLine}
use Rattle.kern_reader.specs.declared.line.KernLine.TheVariants.{Heading, Barline, LastBarline, Data, Unread}
use Rattle.kern_reader.specs.declared.line.Stage.{Stage}
use Rattle.kern_reader.specs.declared.line.Stage.TheVariants as stage
use Rattle.text_words.specs.declared.time_signature.TimeSignature.{TimeSignature}
use Rattle.kern_reader.specs.declared.spine.Spine.{Spine}
use Rattle.kern_reader.specs.declared.token.Token.{Token}
use Rattle.kern_reader.specs.declared.token.Token.TheVariants as token
use Rattle.kern_reader.specs.declared.token.Writing.{Writing}
use Rattle.kern_reader.specs.Columns.{announced, columns_of, continues, current_bar, grid_of, grid_with, line_values, spines_of, stage_of}
use Rattle.kern_reader.specs.Lines.{is_ending, is_heading, line_of}
use Rattle.kern_reader.specs.Text.{columns}

-- ---- what stands where it may not

abbrev pub is_head_stage : Stage → Bool
is_head_stage stage.Head = true
is_head_stage _ = false

-- the first line is `**kern` in 1 to 16 columns
unfoldable pub has_no_head : Stage → List ℕ → Bool
has_no_head at line = is_head_stage at && not (is_heading line && nat_le (length (columns line)) 16)

-- the end stands after the last barline, nothing else does, and nothing at all after the end
unfoldable pub is_out_of_turn : Stage → List ℕ → Bool
is_out_of_turn stage.Head line = false
is_out_of_turn stage.Body line = is_ending line
is_out_of_turn stage.Last line = not (is_ending line)
is_out_of_turn stage.Over line = true

-- an empty line has no columns
unfoldable pub has_wrong_width : Stage → ℕ → List ℕ → Bool
has_wrong_width at spines line = not (is_head_stage at) && (not (length line == 0) && not (length (columns line) == spines))

unfoldable pub is_unread : Stage → KernLine → Bool
is_unread at Unread = true
is_unread at (Heading spines) = not (is_head_stage at)
is_unread at _ = false

-- ---- the grid

unfoldable pub has_no_grid : ℕ → KernLine → Bool
has_no_grid grid line = nat_lt 61440 (grid_with grid (line_values line))

-- ---- places

abbrev pub is_null : Token → Bool
is_null token.Null = true
is_null _ = false

abbrev pub is_grace : Token → Bool
is_grace (token.Grace keys) = true
is_grace _ = false

abbrev pub least_place : List Spine → ℕ
least_place spines = least_of (map (λ s. s.place) spines)

-- In a line with a grace there are only graces and dots, and graces stand in spines at the least place. In a line without one
-- exactly the spines at the least place have tokens.
abbrev pub stands : Bool → ℕ → Token → ℕ → Bool
stands true least t place = is_null t || (is_grace t && (place == least))
stands false least t place = if is_null t then not (place == least) else place == least

abbrev pub all_stand : Bool → ℕ → List Spine → List Token → Bool
all_stand grace least spines tokens = list_all (λ pair. stands grace least pair.0 pair.1.place) (zip tokens spines)

abbrev pub are_placed : List Spine → List Token → Bool
are_placed spines tokens = all_stand (list_any is_grace tokens) (least_place spines) spines tokens

-- data stands in a bar
unfoldable pub is_misplaced : Option TimeSignature → List Spine → KernLine → Bool
is_misplaced bar spines (Data tokens) = is_none bar || not (are_placed spines tokens)
is_misplaced bar spines _ = false

-- ---- graces

-- the fourth grace chord in a row, and graces before a rest or a value that continues a tie
abbrev pub is_grace_wrong : Token → ℕ → Bool
is_grace_wrong (token.Bar signature) waiting = false
is_grace_wrong token.Null waiting = false
is_grace_wrong (token.Rest value) waiting = nat_lt 0 waiting
is_grace_wrong (token.Grace keys) waiting = nat_le 3 waiting
is_grace_wrong (token.Chord writing keys) waiting = continues writing && nat_lt 0 waiting

abbrev pub some_grace_wrong : List Spine → List Token → Bool
some_grace_wrong spines tokens = list_any (λ pair. is_grace_wrong pair.0 pair.1.graces) (zip tokens spines)

-- graces wait at a barline
unfoldable pub has_wrong_grace : List Spine → KernLine → Bool
has_wrong_grace spines (Data tokens) = some_grace_wrong spines tokens
has_wrong_grace spines Barline = list_any (λ s. nat_lt 0 s.graces) spines
has_wrong_grace spines LastBarline = list_any (λ s. nat_lt 0 s.graces) spines
has_wrong_grace spines _ = false

-- ---- bars

-- a spine has filled a bar of num/den where its place is that much of a whole note
abbrev pub is_filled : ℕ → TimeSignature → Spine → Bool
is_filled grid signature spine = spine.place * signature.den == signature.num * grid

abbrev pub is_unfilled : ℕ → Option TimeSignature → List Spine → Bool
is_unfilled grid None spines = false
is_unfilled grid (Some signature) spines = not (list_all (is_filled grid signature) spines)

-- the bar that ends is not full, or the one that begins has no signature
unfoldable pub is_wrong_bar : ℕ → Option TimeSignature → Option TimeSignature → List Spine → KernLine → Bool
is_wrong_bar grid bar next spines Barline = is_unfilled grid bar spines || is_none next
is_wrong_bar grid bar next spines LastBarline = is_unfilled grid bar spines
is_wrong_bar grid bar next spines _ = false

-- ---- ties

-- While a tie is open only a chord of its keys may follow that continues it; and none may continue where no tie is open
abbrev pub is_chord_untied : Writing → ℕ → Option ℕ → Bool
is_chord_untied writing keys None = continues writing
is_chord_untied writing keys (Some tied) = writing.opens || (not (continues writing) || not (keys == tied))

abbrev pub is_tie_wrong : Token → Option ℕ → Bool
is_tie_wrong (token.Bar signature) tied = false
is_tie_wrong token.Null tied = false
is_tie_wrong (token.Grace keys) tied = false
is_tie_wrong (token.Rest value) tied = is_some tied
is_tie_wrong (token.Chord writing keys) tied = is_chord_untied writing keys tied

abbrev pub some_tie_wrong : List Spine → List Token → Bool
some_tie_wrong spines tokens = list_any (λ pair. is_tie_wrong pair.0 pair.1.tied) (zip tokens spines)

unfoldable pub has_wrong_tie : List Spine → KernLine → Bool
has_wrong_tie spines (Data tokens) = some_tie_wrong spines tokens
has_wrong_tie spines LastBarline = list_any (λ s. is_some s.tied) spines
has_wrong_tie spines _ = false

-- ---- in their order

-- the first test that holds
abbrev pub first_fault : List (Bool × KernWhat) → Option KernWhat
first_fault [] = None
first_fault (test ∷ more) = if test.0 then Some test.1 else first_fault more

-- by the text of the line alone
abbrev pub text_tests : Stage → ℕ → List ℕ → List (Bool × KernWhat)
text_tests at spines text =
    (has_no_head at text, what.Head)
    ∷ (is_out_of_turn at text, what.End)
    ∷ (has_wrong_width at spines text, what.Width)
    ∷ []

-- and by what it says, on a grid, in a bar, with a signature for the next one
abbrev pub said_tests : Stage → ℕ → Option TimeSignature → Option TimeSignature → List Spine → KernLine → List (Bool × KernWhat)
said_tests at grid bar next spines line =
    (is_unread at line, what.Token)
    ∷ (has_no_grid grid line, what.Grid)
    ∷ (is_misplaced bar spines line, what.Place)
    ∷ (has_wrong_grace spines line, what.Grace)
    ∷ (is_wrong_bar grid bar next spines line, what.Bar)
    ∷ (has_wrong_tie spines line, what.Tie)
    ∷ []

abbrev pub line_tests : List KernLine → List ℕ → List (Bool × KernWhat)
line_tests before text =
    text_tests (stage_of before) (length (columns_of before)) text
    ++ said_tests (stage_of before) (grid_of before) (current_bar before) (announced before) (spines_of before) (line_of text)

unfoldable pub line_fault : List KernLine → List ℕ → Option KernWhat
line_fault before text = first_fault (line_tests before text)
