-- What holds of the columns of lines whose values and signatures are in their ranges.
use Rattle.std.proofs.Common.{ℕ, suc, ◌≤◌, List, [], ◌∷◌, ◌++◌, length, map, arith, Option, Some, None}
use Rattle.std.specs.Prelude.{All, IfSome}
use Rattle.std.specs.Int.{◌∣◌}
use Rattle.std.specs.List.{flat_map, zip}
use Rattle.std.proofs.Math.Nat.{dvd_trans}
use Rattle.std.proofs.lemmas.List.Elements.{All-cons, All-head, All-nil, All-tail, All-replicate, All-weaker}
use Rattle.durations.specs.declared.value.Value.{Value}
use Rattle.durations.specs.Value.{value_grid}
use Rattle.kern_reader.specs.declared.line.KernLine.{KernLine}
use Rattle.kern_reader.specs.declared.line.KernLine.TheVariants.{Heading, Signature, Other, Ending, Barline, LastBarline, Data, Unread}
use Rattle.text_words.specs.declared.time_signature.TimeSignature.{TimeSignature}
use Rattle.kern_reader.specs.declared.token.Token.{Token}
use Rattle.kern_reader.specs.declared.token.Token.TheVariants as token
use Rattle.kern_reader.specs.Columns.{add_bar, add_token, announced, columns_of, grid_of, grid_with, lcm, line_values, token_values}
use Rattle.kern_reader.specs.Lines.{IsWellLine}
use Rattle.kern_reader.specs.Score.{Counts, IsColumnOn, IsTokenOn}
use Rattle.kern_reader.specs.Tokens.{IsWellSignature, IsWellToken}
use Rattle.text_words.specs.Values.{IsWellValue}
use Rattle.kern_reader.proofs.GridLemmas.{AreWell, grid_grows, grid_multiple, lcm_second}
use Rattle.kern_reader.proofs.GridWalk.{values_well}

-- ---- the grid

line_values_well : (line : KernLine) → IsWellLine line → AreWell (line_values line)
line_values_well (Heading spines) well = All-nil IsWellValue
line_values_well (Signature signature) well = All-nil IsWellValue
line_values_well Other well = All-nil IsWellValue
line_values_well Ending well = All-nil IsWellValue
line_values_well Barline well = All-nil IsWellValue
line_values_well LastBarline well = All-nil IsWellValue
line_values_well (Data tokens) well = values_well tokens well
line_values_well Unread well = All-nil IsWellValue

pub grid_some : (before : List KernLine) → All IsWellLine before → 1 ≤ grid_of before
grid_some [] well = omega arith
grid_some (line ∷ before) well =
    omega (arith, grid_some before (All-tail IsWellLine line before well), grid_grows (grid_of before) (line_values line) (line_values_well line (All-head IsWellLine line before well)))

-- new values count in the grid with them
pub grid_counts : (grid : ℕ) (vs : List Value) → All (Counts (grid_with grid vs)) vs
grid_counts grid [] = All-nil (Counts grid)
grid_counts grid (v ∷ vs) =
    All-cons (Counts (grid_with grid (v ∷ vs))) v vs (dvd_trans (value_grid v) (lcm_second grid (value_grid v)) (grid_multiple (lcm grid (value_grid v)) vs))
    (grid_counts (lcm grid (value_grid v)) vs)

-- ---- tokens on the grid

finer : (grid more : ℕ) → grid ∣ more → (columns : List (List Token)) → All (IsColumnOn grid) columns → All (IsColumnOn more) columns
finer grid more divides columns on =
    All-weaker (IsColumnOn grid) (IsColumnOn more) (λ column are. All-weaker (IsTokenOn grid) (IsTokenOn more) token_finer column are) columns on
  where
    token_finer : (t : Token) → IsTokenOn grid t → IsTokenOn more t
    token_finer t (well, counts) = (well, All-weaker (Counts grid) (Counts more) (λ v d. dvd_trans (value_grid v) d divides) (token_values t) counts)

pub split : (P : Value → Type 0) (xs ys : List Value) → All P (xs ++ ys) → All P xs × All P ys
split P [] ys all = (All-nil P, all)
split P (x ∷ xs) ys all =
    let rest = split P xs ys (All-tail P x (xs ++ ys) all) in
    (All-cons P x xs (All-head P x (xs ++ ys) all) rest.0, rest.1)

with_tokens : (grid : ℕ) (ts : List Token) (columns : List (List Token)) → All IsWellToken ts → All (Counts grid) (flat_map token_values ts) → All (IsColumnOn grid) columns
    → All (IsColumnOn grid) (map add_token (zip ts columns))
with_tokens grid [] columns well counts on = All-nil (IsColumnOn grid)
with_tokens grid (t ∷ ts) [] well counts on = All-nil (IsColumnOn grid)
with_tokens grid (t ∷ ts) (column ∷ columns) well counts on =
    let (own, others) = split (Counts grid) (token_values t) (flat_map token_values ts) counts in
    All-cons (IsColumnOn grid) (t ∷ column) (map add_token (zip ts columns))
    (All-cons (IsTokenOn grid) t column (All-head IsWellToken t ts well, own) (All-head (IsColumnOn grid) column columns on))
    (with_tokens grid ts columns (All-tail IsWellToken t ts well) others (All-tail (IsColumnOn grid) column columns on))

-- the signature that was said is in its range
pub announced_well : (before : List KernLine) → All IsWellLine before → IfSome (announced before) IsWellSignature
announced_well [] well = tt
announced_well (Heading spines ∷ before) well = announced_well before (All-tail IsWellLine (Heading spines) before well)
announced_well (Signature signature ∷ before) well = All-head IsWellLine (Signature signature) before well
announced_well (Other ∷ before) well = announced_well before (All-tail IsWellLine Other before well)
announced_well (Ending ∷ before) well = announced_well before (All-tail IsWellLine Ending before well)
announced_well (Barline ∷ before) well = announced_well before (All-tail IsWellLine Barline before well)
announced_well (LastBarline ∷ before) well = announced_well before (All-tail IsWellLine LastBarline before well)
announced_well (Data tokens ∷ before) well = announced_well before (All-tail IsWellLine (Data tokens) before well)
announced_well (Unread ∷ before) well = announced_well before (All-tail IsWellLine Unread before well)

with_bar : (grid : ℕ) (signature : Option TimeSignature) (columns : List (List Token)) → IfSome signature IsWellSignature → All (IsColumnOn grid) columns
    → All (IsColumnOn grid) (map (add_bar signature) columns)
with_bar grid None [] well on = on
with_bar grid None (column ∷ columns) well on =
    All-cons (IsColumnOn grid) column (map (add_bar None) columns) (All-head (IsColumnOn grid) column columns on) (with_bar grid None columns well (All-tail (IsColumnOn grid) column columns on))
with_bar grid (Some signature) [] well on = on
with_bar grid (Some signature) (column ∷ columns) well on =
    All-cons (IsColumnOn grid) (token.Bar signature ∷ column) (map (add_bar (Some signature)) columns)
    (All-cons (IsTokenOn grid) (token.Bar signature) column (well, All-nil (Counts grid)) (All-head (IsColumnOn grid) column columns on))
    (with_bar grid (Some signature) columns well (All-tail (IsColumnOn grid) column columns on))

-- all that stands in the columns is in its range and counts in the grid
pub columns_on : (before : List KernLine) → All IsWellLine before → All (IsColumnOn (grid_of before)) (columns_of before)
columns_on [] well = All-nil (IsColumnOn 1)
columns_on (Heading spines ∷ before) well = All-replicate (IsColumnOn (grid_of before)) spines [] (All-nil (IsTokenOn (grid_of before)))
columns_on (Signature signature ∷ before) well = columns_on before (All-tail IsWellLine (Signature signature) before well)
columns_on (Other ∷ before) well = columns_on before (All-tail IsWellLine Other before well)
columns_on (Ending ∷ before) well = columns_on before (All-tail IsWellLine Ending before well)
columns_on (Barline ∷ before) well =
    let rest = All-tail IsWellLine Barline before well in
    with_bar (grid_of before) (announced before) (columns_of before) (announced_well before rest) (columns_on before rest)
columns_on (LastBarline ∷ before) well = columns_on before (All-tail IsWellLine LastBarline before well)
columns_on (Data tokens ∷ before) well =
    let rest = All-tail IsWellLine (Data tokens) before well in
    let vs = flat_map token_values tokens in
    with_tokens (grid_with (grid_of before) vs) tokens (columns_of before) (All-head IsWellLine (Data tokens) before well) (grid_counts (grid_of before) vs)
    (finer (grid_of before) (grid_with (grid_of before) vs) (grid_multiple (grid_of before) vs) (columns_of before) (columns_on before rest))
columns_on (Unread ∷ before) well = columns_on before (All-tail IsWellLine Unread before well)

-- ---- lengths

abbrev pub IsShort : ℕ → List Token → Type 0
IsShort n column = length column ≤ n

longer : (n : ℕ) (columns : List (List Token)) → All (IsShort n) columns → All (IsShort (suc n)) columns
longer n columns short = All-weaker (IsShort n) (IsShort (suc n)) (λ column s. omega (arith, s)) columns short

token_longer : (n : ℕ) (ts : List Token) (columns : List (List Token)) → All (IsShort n) columns → All (IsShort (suc n)) (map add_token (zip ts columns))
token_longer n [] columns short = All-nil (IsShort (suc n))
token_longer n (t ∷ ts) [] short = All-nil (IsShort (suc n))
token_longer n (t ∷ ts) (column ∷ columns) short =
    let one = All-head (IsShort n) column columns short in
    All-cons (IsShort (suc n)) (t ∷ column) (map add_token (zip ts columns)) (omega (arith, one)) (token_longer n ts columns (All-tail (IsShort n) column columns short))

bar_longer : (n : ℕ) (signature : Option TimeSignature) (columns : List (List Token)) → All (IsShort n) columns → All (IsShort (suc n)) (map (add_bar signature) columns)
bar_longer n None [] short = All-nil (IsShort (suc n))
bar_longer n None (column ∷ columns) short =
    let one = All-head (IsShort n) column columns short in
    All-cons (IsShort (suc n)) column (map (add_bar None) columns) (omega (arith, one)) (bar_longer n None columns (All-tail (IsShort n) column columns short))
bar_longer n (Some signature) [] short = All-nil (IsShort (suc n))
bar_longer n (Some signature) (column ∷ columns) short =
    let one = All-head (IsShort n) column columns short in
    All-cons (IsShort (suc n)) (token.Bar signature ∷ column) (map (add_bar (Some signature)) columns) (omega (arith, one))
    (bar_longer n (Some signature) columns (All-tail (IsShort n) column columns short))

-- no column has more tokens than there are lines
pub columns_short : (before : List KernLine) → All (IsShort (length before)) (columns_of before)
columns_short [] = All-nil (IsShort 0)
columns_short (Heading spines ∷ before) = All-replicate (IsShort (suc (length before))) spines [] (omega arith)
columns_short (Signature signature ∷ before) = longer (length before) (columns_of before) (columns_short before)
columns_short (Other ∷ before) = longer (length before) (columns_of before) (columns_short before)
columns_short (Ending ∷ before) = longer (length before) (columns_of before) (columns_short before)
columns_short (Barline ∷ before) = bar_longer (length before) (announced before) (columns_of before) (columns_short before)
columns_short (LastBarline ∷ before) = longer (length before) (columns_of before) (columns_short before)
columns_short (Data tokens ∷ before) = token_longer (length before) tokens (columns_of before) (columns_short before)
columns_short (Unread ∷ before) = longer (length before) (columns_of before) (columns_short before)
