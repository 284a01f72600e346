-- What is known of a spine, one token after another.
use Rattle.std.proofs.Common.{◌≡◌, ℕ, suc, ◌+◌, ◌*◌, ◌/◌, ◌<◌, ◌≤◌, Bool, true, false, not, List, [], ◌∷◌, length, refl, sym, ap, ◌∙◌, arith, ap₂, length-append, Some, None}
use Rattle.std.specs.Prelude.{All, sum_by, take_while, ◌||◌, if◌then◌else◌}
use Rattle.std.specs.Int.{◌∣◌}
use Rattle.std.specs.List.{flat_map, prefix_len}
use Rattle.std.proofs.Math.Nat.{div-mul_cancel, mul-div_left, mul-le-mul_left}
use Rattle.std.proofs.lemmas.List.Elements.{All-append, All-cons, All-head, All-nil, All-tail, All-take}
use Rattle.std.proofs.lemmas.List.Folds.{length-prefix_len}
use Rattle.std.proofs.lemmas.List.Sums.{prefix_len-le-length, sum_by-cons}
use Rattle.durations.specs.declared.value.Value.{Value}
use Rattle.durations.specs.Value.{parts, value_grid, width}
use Rattle.kern_reader.specs.declared.token.Token.{Token}
use Rattle.kern_reader.specs.declared.token.Token.TheVariants as token
use Rattle.kern_reader.specs.declared.token.Writing.{Writing}
use Rattle.kern_reader.specs.Columns.{grace_keys, has_value, is_bar, is_left_open, place, rescaled, spine_after, spine_at, token_values, waiting}
use Rattle.kern_reader.specs.Score.{Counts, IsTokenOn}
use Rattle.text_words.specs.Values.{IsWellValue}
use Rattle.kern_reader.proofs.GridLemmas.{counted, width_few}

-- ---- the front of a list

pub take_while-goes : {X : Type 0} (p : X → Bool) (x : X) (xs : List X) → p x ≡ true → take_while p (x ∷ xs) ≡ x ∷ take_while p xs
take_while-goes p x xs e = let n : 1 + prefix_len p xs ≡ suc (prefix_len p xs) = omega arith in rw (e, n) refl

pub take_while-stops : {X : Type 0} (p : X → Bool) (x : X) (xs : List X) → p x ≡ false → take_while p (x ∷ xs) ≡ []
take_while-stops p x xs e = rw e refl

-- ---- one token more

abbrev pub in_bar : Token → Bool
in_bar t = not (is_bar t)

abbrev pub is_apart : Token → Bool
is_apart t = not (is_bar t || has_value t)

pub spine_next : (grid : ℕ) (t : Token) (column : List Token) → spine_at grid (t ∷ column) ≡ spine_after grid (spine_at grid column) t
spine_next grid (token.Bar signature) column = refl
spine_next grid token.Null column = λ i. record {
  place = sum_by (width grid) (flat_map token_values (take_while-goes in_bar token.Null column refl i));
  tied = (spine_at grid column).tied;
  graces = length (flat_map grace_keys (take_while-goes is_apart token.Null column refl i));
}
spine_next grid (token.Rest value) column = λ i. record {
  place = (ap (λ ts. sum_by (width grid) (flat_map token_values ts)) (take_while-goes in_bar (token.Rest value) column refl) ∙ sum_by-cons (width grid) value (flat_map token_values (take_while in_bar column))) i;
  tied = None;
  graces = length (flat_map grace_keys (take_while-stops is_apart (token.Rest value) column refl i));
}
spine_next grid (token.Grace keys) column = λ i. record {
  place = sum_by (width grid) (flat_map token_values (take_while-goes in_bar (token.Grace keys) column refl i));
  tied = (spine_at grid column).tied;
  graces = length (flat_map grace_keys (take_while-goes is_apart (token.Grace keys) column refl i));
}
spine_next grid (token.Chord writing keys) column = λ i. record {
  place = (ap (λ ts. sum_by (width grid) (flat_map token_values ts)) (take_while-goes in_bar (token.Chord writing keys) column refl) ∙ sum_by-cons (width grid) writing.value (flat_map token_values (take_while in_bar column))) i;
  tied = if is_left_open writing then Some keys else None;
  graces = length (flat_map grace_keys (take_while-stops is_apart (token.Chord writing keys) column refl i));
}

-- ---- a finer grid

abbrev pub IsOn : ℕ → Value → Type 0
IsOn grid v = IsWellValue v × (value_grid v ∣ grid)

width_scaled : (grid times : ℕ) (v : Value) → IsOn grid v → width (grid * times) v ≡ width grid v * times
width_scaled grid times v (well, divides) =
    let positive : 0 < value_grid v = (counted v well).0 in
    let q = grid / value_grid v in
    let whole : grid ≡ q * value_grid v = sym (div-mul_cancel (value_grid v) divides) in
    let finer : parts v * (grid * times) ≡ parts v * q * times * value_grid v = ap (λ g. parts v * (g * times)) whole ∙ turned (parts v) q (value_grid v) times in
    let coarse : parts v * grid ≡ parts v * q * value_grid v = ap (λ g. parts v * g) whole ∙ regrouped (parts v) q (value_grid v) in
    ap (λ x. x / value_grid v) finer ∙ mul-div_left (parts v * q * times) positive
    ∙ ap (λ x. x * times) (sym (ap (λ x. x / value_grid v) coarse ∙ mul-div_left (parts v * q) positive))
  where
    turned : (p q g t : ℕ) → p * (q * g * t) ≡ p * q * t * g
    turned p q g t = grind arith

    regrouped : (p q g : ℕ) → p * (q * g) ≡ p * q * g
    regrouped p q g = grind arith

sum_scaled : (grid times : ℕ) (vs : List Value) → All (IsOn grid) vs → sum_by (width (grid * times)) vs ≡ sum_by (width grid) vs * times
sum_scaled grid times [] are = omega arith
sum_scaled grid times (v ∷ vs) are =
    let one = width_scaled grid times v (All-head (IsOn grid) v vs are) in
    let rest = sum_scaled grid times vs (All-tail (IsOn grid) v vs are) in
    sum_by-cons (width (grid * times)) v vs ∙ ap₂ ◌+◌ one rest ∙ joined (width grid v) (sum_by (width grid) vs) times
    ∙ ap (λ x. x * times) (sym (sum_by-cons (width grid) v vs))
  where
    joined : (a b t : ℕ) → a * t + b * t ≡ (a + b) * t
    joined a b t = grind arith

-- the values of tokens on a grid
pub token_on : (grid : ℕ) (t : Token) → IsTokenOn grid t → All (IsOn grid) (token_values t)
token_on grid (token.Bar signature) on = All-nil (IsOn grid)
token_on grid token.Null on = All-nil (IsOn grid)
token_on grid (token.Rest value) on = All-cons (IsOn grid) value [] (on.0, All-head (Counts grid) value [] on.1) (All-nil (IsOn grid))
token_on grid (token.Grace keys) on = All-nil (IsOn grid)
token_on grid (token.Chord writing keys) on = All-cons (IsOn grid) writing.value [] (on.0, All-head (Counts grid) writing.value [] on.1) (All-nil (IsOn grid))

pub values_on : (grid : ℕ) (ts : List Token) → All (IsTokenOn grid) ts → All (IsOn grid) (flat_map token_values ts)
values_on grid [] on = All-nil (IsOn grid)
values_on grid (t ∷ ts) on =
    All-append (IsOn grid) (token_values t) (flat_map token_values ts) (token_on grid t (All-head (IsTokenOn grid) t ts on)) (values_on grid ts (All-tail (IsTokenOn grid) t ts on))

pub spine_scaled : (grid times : ℕ) (column : List Token) → All (IsTokenOn grid) column → spine_at (grid * times) column ≡ rescaled times (spine_at grid column)
spine_scaled grid times column on = λ i. record {
  place = sum_scaled grid times (flat_map token_values (take_while in_bar column)) (values_on grid (take_while in_bar column) (All-take (IsTokenOn grid) (prefix_len in_bar column) column on)) i;
  tied = (spine_at grid column).tied;
  graces = (spine_at grid column).graces;
}

-- ---- bounds

sum_few : (grid : ℕ) (vs : List Value) → All (IsOn grid) vs → sum_by (width grid) vs ≤ 7 * grid * length vs
sum_few grid [] are = omega arith
sum_few grid (v ∷ vs) are =
    let one = width_few grid v (All-head (IsOn grid) v vs are).0 in
    let rest = sum_few grid vs (All-tail (IsOn grid) v vs are) in
    let product : 7 * grid * suc (length vs) ≡ 7 * grid * length vs + 7 * grid = grind arith in
    omega (arith, sum_by-cons (width grid) v vs, one, rest, product)

one_value : (t : Token) → length (token_values t) ≤ 1
one_value (token.Bar signature) = omega arith
one_value token.Null = omega arith
one_value (token.Rest value) = omega arith
one_value (token.Grace keys) = omega arith
one_value (token.Chord writing keys) = omega arith

values_few : (ts : List Token) → length (flat_map token_values ts) ≤ length ts
values_few [] = omega arith
values_few (t ∷ ts) = omega (arith, one_value t, values_few ts, length-append (token_values t) (flat_map token_values ts))

pub place_few : (grid : ℕ) (column : List Token) → All (IsTokenOn grid) column → place grid column ≤ 7 * grid * length column
place_few grid column on =
    let front = take_while in_bar column in
    let sum = sum_few grid (flat_map token_values front) (values_on grid front (All-take (IsTokenOn grid) (prefix_len in_bar column) column on)) in
    let count : length (flat_map token_values front) ≤ length column = omega (arith, values_few front, length-prefix_len in_bar column, prefix_len-le-length in_bar column) in
    let product : 7 * grid * length (flat_map token_values front) ≤ 7 * grid * length column = mul-le-mul_left (7 * grid) count in
    omega (arith, sum, product)

one_grace : (t : Token) → length (grace_keys t) ≤ 1
one_grace (token.Bar signature) = omega arith
one_grace token.Null = omega arith
one_grace (token.Rest value) = omega arith
one_grace (token.Grace keys) = omega arith
one_grace (token.Chord writing keys) = omega arith

graces_few : (ts : List Token) → length (flat_map grace_keys ts) ≤ length ts
graces_few [] = omega arith
graces_few (t ∷ ts) = omega (arith, one_grace t, graces_few ts, length-append (grace_keys t) (flat_map grace_keys ts))

pub waiting_few : (column : List Token) → length (waiting column) ≤ length column
waiting_few column = omega (arith, graces_few (take_while is_apart column), length-prefix_len is_apart column, prefix_len-le-length is_apart column)

-- ---- the grace chords that wait

pub waiting_grace : (keys : ℕ) (column : List Token) → waiting (token.Grace keys ∷ column) ≡ keys ∷ waiting column
waiting_grace keys column = ap (flat_map grace_keys) (take_while-goes is_apart (token.Grace keys) column refl)

pub waiting_null : (column : List Token) → waiting (token.Null ∷ column) ≡ waiting column
waiting_null column = ap (flat_map grace_keys) (take_while-goes is_apart token.Null column refl)

pub waiting_rest : (value : Value) (column : List Token) → waiting (token.Rest value ∷ column) ≡ []
waiting_rest value column = ap (flat_map grace_keys) (take_while-stops is_apart (token.Rest value) column refl)

pub waiting_chord : (writing : Writing) (keys : ℕ) (column : List Token) → waiting (token.Chord writing keys ∷ column) ≡ []
waiting_chord writing keys column = ap (flat_map grace_keys) (take_while-stops is_apart (token.Chord writing keys) column refl)
