-- The grid of a list of tokens, one after another.
use Rattle.std.proofs.Common.{◌≡◌, ℕ, ◌+◌, ◌<◌, List, [], ◌∷◌, drop, length, get_or, refl, sym, ap, ◌∙◌, arith, drop-cons, add-one}
use Rattle.std.specs.Prelude.{All}
use Rattle.std.specs.List.{flat_map}
use Rattle.std.proofs.lemmas.List.Elements.{All-append, All-cons, All-drop, All-head, All-nil, All-tail}
use Rattle.kern_reader.specs.declared.token.Token.{Token}
use Rattle.kern_reader.specs.declared.token.Token.TheVariants as token
use Rattle.kern_reader.specs.Columns.{grid_with, token_values}
use Rattle.kern_reader.specs.Tokens.{IsWellToken}
use Rattle.text_words.specs.Values.{IsWellValue}
use Rattle.kern_reader.proofs.GridLemmas.{AreWell, grid_append, grid_grows}

pub token_values_well : (t : Token) → IsWellToken t → AreWell (token_values t)
token_values_well (token.Bar signature) well = All-nil IsWellValue
token_values_well token.Null well = All-nil IsWellValue
token_values_well (token.Rest value) well = All-cons IsWellValue value [] well (All-nil IsWellValue)
token_values_well (token.Grace keys) well = All-nil IsWellValue
token_values_well (token.Chord writing keys) well = All-cons IsWellValue writing.value [] well (All-nil IsWellValue)

pub values_well : (ts : List Token) → All IsWellToken ts → AreWell (flat_map token_values ts)
values_well [] well = All-nil IsWellValue
values_well (t ∷ ts) well = All-append IsWellValue (token_values t) (flat_map token_values ts) (token_values_well t (All-head IsWellToken t ts well)) (values_well ts (All-tail IsWellToken t ts well))

-- the next of a list
pub next_of : {X : Type 0} (xs : List X) (i : ℕ) (x : X) → i < length xs → x ≡ get_or xs i x → drop i xs ≡ x ∷ drop (i + 1) xs
next_of xs i x within is = drop-cons xs i x within ∙ rw (add-one, ← is) refl

-- one token more
pub grid_next : (grid : ℕ) (ts : List Token) (i : ℕ) (t : Token) → i < length ts → t ≡ get_or ts i t
    → grid_with (grid_with grid (token_values t)) (flat_map token_values (drop (i + 1) ts)) ≡ grid_with grid (flat_map token_values (drop i ts))
grid_next grid ts i t within is =
    let front : drop i ts ≡ t ∷ drop (i + 1) ts = next_of ts i t within is in
    sym (ap (λ xs. grid_with grid (flat_map token_values xs)) front ∙ grid_append grid (token_values t) (flat_map token_values (drop (i + 1) ts)))

-- a grid does not grow coarser
pub grid_past : (most finer grid : ℕ) (ts : List Token) (i : ℕ) → All IsWellToken ts → most < finer
    → grid_with finer (flat_map token_values (drop i ts)) ≡ grid → most < grid
grid_past most finer grid ts i well past same =
    omega (arith, grid_grows finer (flat_map token_values (drop i ts)) (values_well (drop i ts) (All-drop IsWellToken i ts well)), same)
