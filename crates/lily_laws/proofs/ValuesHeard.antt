-- What is heard of the values of a piece: how far a rest goes, and how long a span has sounded.
use Rattle.rhythm_base.specs.declared.limits.TheConstants.{MOST_UNITS}
use Rattle.std.proofs.Common.{◌≡◌, ℕ, zero, suc, ◌+◌, ◌*◌, ◌^◌, ◌≤◌, Bool, true, false, List, [], ◌∷◌, ◌++◌, map, refl, sym, ap, ap₂, ◌∙◌, subst, arith, append-nil, Some}
use Rattle.std.specs.Prelude.{All, sum_by}
use Rattle.std.specs.Int.{◌∣◌}
use Rattle.std.specs.List.{flat_map}
use Rattle.std.proofs.Math.Nat.{div-mul_cancel, dvd-mul_right, dvd_refl, le_of_dvd, mul-le-mul_left, zero-dvd}
use Rattle.std.proofs.lemmas.List.Elements.{All-cons, All-head, All-nil, All-tail}
use Rattle.std.proofs.lemmas.List.Sums.{sum-map, sum_by-cons}
use Rattle.std.proofs.lemmas.Nat.{pow_pos}
use Rattle.rhythm_base.specs.declared.span.Frac.{Frac}
use Rattle.rhythm_base.specs.declared.span.Span.{Span}
use Rattle.durations.proofs.Firsts.{values_dots}
use Rattle.durations.proofs.Grids.{values_grid}
use Rattle.durations.proofs.Sums.{values_sum}
use Rattle.durations.specs.declared.value.Value.{Value}
use Rattle.durations.specs.Laws.{CountsIn}
use Rattle.durations.specs.Value.{IsWide, parts, plain_grid, value_grid, width}
use Rattle.durations.specs.Values.{AreValues}
use Rattle.derivation.specs.WellSounded.{AreKeys}
use Rattle.text_words.specs.Values.{IsWellValue}
use Rattle.lily_writer.specs.Elements.{Element, grace_group, note_value, rest_value}
use Rattle.lily_writer.specs.Fractions.{frac, frac_plus}
use Rattle.lily_writer.specs.Hearing.{hear_words}
use Rattle.lily_writer.specs.Pieces.{elements_of, grace_elements, notes}
use Rattle.lily_laws.proofs.ChordsHeard.{hear_more}
use Rattle.lily_laws.proofs.ElementWords.{element_words}
use Rattle.lily_laws.proofs.ElementsHeard.{first_heard, graced, group_heard, holding, next_heard, rest_heard, resting, sounded, value_frac}
use Rattle.lily_laws.proofs.Fractions.{plus_parts, same_value}

-- ---- the values of a length

-- a value can be written, and is so many parts of a whole note
pub record IsCounted (r : ℕ) (v : Value) : Type 0 where
  pub well : IsWellValue v
  pub long : value_frac v ≡ frac (width (64 * r) v) (64 * r)

grid_factor : (a b n : ℕ) → 1 ≤ n → a * b ∣ n → 1 ≤ a
grid_factor zero b n some divides =
    let nothing : zero * b ≡ zero = omega arith in
    let e : n ≡ zero = (zero-dvd {n = n}).0 (subst (λ x. x ∣ n) nothing divides) in
    absurd (omega (arith, e, some))
grid_factor (suc a) b n some divides = omega arith

is_counted : (r : ℕ) (v : Value) → 1 ≤ r → r ≤ MOST_UNITS → IsWide (64 * r) v → CountsIn (64 * r) v → v.dots ≤ 2 → IsCounted r v
is_counted r v some few wide counts dots =
    let even : 2 ∣ 64 * r = subst (λ n. 2 ∣ n) (whole r) (dvd-mul_right 2 (32 * r)) in
    let divides : value_grid v ∣ 64 * r = counts (64 * r) (dvd_refl (64 * r)) even in
    let grid : 1 ≤ plain_grid v.recip = grid_factor (plain_grid v.recip) (2 ^ v.dots) (64 * r) (omega (arith, some)) divides in
    let most : value_grid v ≤ 64 * r = le_of_dvd (omega (arith, some)) divides in
    let less : plain_grid v.recip * 1 ≤ plain_grid v.recip * 2 ^ v.dots = mul-le-mul_left (plain_grid v.recip) (pow_pos v.dots) in
    let some_grid : 1 ≤ value_grid v = omega (arith, grid, less) in
    record {
      well = record { some = grid; few = omega (arith, less, most, few); dots = dots };
      long = same_value (parts v) (value_grid v) (width (64 * r) v) (64 * r) some_grid (omega (arith, some))
          (sym (div-mul_cancel (value_grid v) wide));
    }
  where
    whole : (r : ℕ) → 2 * (32 * r) ≡ 64 * r
    whole r = omega arith

all_counted : (r : ℕ) (vs : List Value) → 1 ≤ r → r ≤ MOST_UNITS → All (IsWide (64 * r)) vs → All (CountsIn (64 * r)) vs
    → All (λ v. v.dots ≤ 2) vs → All (IsCounted r) vs
all_counted r [] some few wide counts dots = All-nil (IsCounted r)
all_counted r (v ∷ vs) some few wide counts dots =
    All-cons (IsCounted r) v vs
    (is_counted r v some few (All-head (IsWide (64 * r)) v vs wide) (All-head (CountsIn (64 * r)) v vs counts)
    (All-head (λ v. v.dots ≤ 2) v vs dots))
    (all_counted r vs some few (All-tail (IsWide (64 * r)) v vs wide) (All-tail (CountsIn (64 * r)) v vs counts)
    (All-tail (λ v. v.dots ≤ 2) v vs dots))

-- the values of a length are counted, and sum to it
pub counted_values : (r len : ℕ) (vs : List Value) → 1 ≤ r → r ≤ MOST_UNITS → AreValues len (64 * r) vs
    → All (IsCounted r) vs × (sum_by (width (64 * r)) vs ≡ len)
counted_values r len vs some few are =
    let sums = values_sum len (64 * r) vs (omega (arith, some)) are in (
      all_counted r vs some few sums.wide (values_grid len (64 * r) vs are) (values_dots len (64 * r) vs are),
      sym (sum-map (width (64 * r)) vs) ∙ sums.sum,
    )

-- ---- along a piece

-- a span that has sounded for so many parts
abbrev pub partial : ℕ → Span → ℕ → Span
partial r x m = record x { len = frac m (64 * r) }

module _ (r : ℕ) (flats : Bool) (some : 1 ≤ r) where
  abbrev words_of : List Element → List (List ℕ)
  words_of es = flat_map (element_words flats) es

  along : (n : ℕ) (v : Value) → IsCounted r v → frac_plus (frac n (64 * r)) (value_frac v) ≡ frac (n + width (64 * r) v) (64 * r)
  along n v is = ap (frac_plus (frac n (64 * r))) is.long ∙ plus_parts n (width (64 * r) v) (64 * r) (omega (arith, some))

  further : (n w s t : ℕ) → t ≡ w + s → frac (n + w + s) (64 * r) ≡ frac (n + t) (64 * r)
  further n w s t e = let same : n + w + s ≡ n + t = omega (arith, e) in ap (λ k. frac k (64 * r)) same

  pub rests_heard : (done : List Span) (n : ℕ) (vs : List Value) → All (IsCounted r) vs
      → hear_words (resting done (frac n (64 * r))) (words_of (map rest_value vs))
      ≡ Some (resting done (frac (n + sum_by (width (64 * r)) vs) (64 * r)))
  rests_heard done n [] are = let same : n ≡ n + 0 = omega arith in ap (λ k. Some (resting done (frac k (64 * r)))) same
  rests_heard done n (v ∷ vs) are =
      let is = All-head (IsCounted r) v vs are in
      hear_more (resting done (frac n (64 * r))) (resting done (frac (n + width (64 * r) v) (64 * r))) (element_words flats (rest_value v))
      (words_of (map rest_value vs))
      (rest_heard flats v done (frac n (64 * r)) is.well ∙ ap (λ f. Some (resting done f)) (along n v is))
      ∙ rests_heard done (n + width (64 * r) v) vs (All-tail (IsCounted r) v vs are)
      ∙ ap (λ f. Some (resting done f)) (further n (width (64 * r) v) (sum_by (width (64 * r)) vs) (sum_by (width (64 * r)) (v ∷ vs))
      (sum_by-cons (width (64 * r)) v vs))

  -- the values of a span that has sounded before
  held_heard : (done : List Span) (n m : ℕ) (x : Span) (goes : Bool) (v : Value) (vs : List Value) → AreKeys x.keys
      → All (IsCounted r) (v ∷ vs)
      → hear_words (holding done (frac n (64 * r)) (partial r x m)) (words_of (notes x.keys false goes (v ∷ vs)))
      ≡ Some (sounded goes done (frac (n + sum_by (width (64 * r)) (v ∷ vs)) (64 * r)) (partial r x (m + sum_by (width (64 * r)) (v ∷ vs))))
  held_heard done n m x goes v [] keys are =
      let is = All-head (IsCounted r) v [] are in
      let one : sum_by (width (64 * r)) (v ∷ []) ≡ width (64 * r) v + 0 = sum_by-cons (width (64 * r)) v [] in
      let same : width (64 * r) v ≡ sum_by (width (64 * r)) (v ∷ []) = omega (arith, one) in
      ap (hear_words (holding done (frac n (64 * r)) (partial r x m))) (append-nil (element_words flats (note_value x.keys v false goes)))
      ∙ next_heard flats v goes done (frac n (64 * r)) (partial r x m) keys is.well
      ∙ ap₂ (λ f g. Some (sounded goes done f (record x { len = g }))) (along n v is) (along m v is)
      ∙ ap (λ w. Some (sounded goes done (frac (n + w) (64 * r)) (partial r x (m + w)))) same
  held_heard done n m x goes v (w ∷ vs) keys are =
      let is = All-head (IsCounted r) v (w ∷ vs) are in
      let more = sum_by-cons (width (64 * r)) v (w ∷ vs) in
      hear_more (holding done (frac n (64 * r)) (partial r x m))
      (holding done (frac (n + width (64 * r) v) (64 * r)) (partial r x (m + width (64 * r) v)))
      (element_words flats (note_value x.keys v false true)) (words_of (notes x.keys false goes (w ∷ vs)))
      (next_heard flats v true done (frac n (64 * r)) (partial r x m) keys is.well
      ∙ ap₂ (λ f g. Some (holding done f (record x { len = g }))) (along n v is) (along m v is))
      ∙ held_heard done (n + width (64 * r) v) (m + width (64 * r) v) x goes w vs keys (All-tail (IsCounted r) v (w ∷ vs) are)
      ∙ ap₂ (λ f g. Some (sounded goes done f (record x { len = g })))
      (further n (width (64 * r) v) (sum_by (width (64 * r)) (w ∷ vs)) (sum_by (width (64 * r)) (v ∷ w ∷ vs)) more)
      (further m (width (64 * r) v) (sum_by (width (64 * r)) (w ∷ vs)) (sum_by (width (64 * r)) (v ∷ w ∷ vs)) more)

  -- the values of a span that begins
  begun_heard : (done : List Span) (n : ℕ) (x : Span) (goes : Bool) (v : Value) (vs : List Value) → x.start ≡ frac n (64 * r)
      → AreKeys x.keys → All (IsCounted r) (v ∷ vs)
      → hear_words (graced done (frac n (64 * r)) x.graces) (words_of (notes x.keys x.short goes (v ∷ vs)))
      ≡ Some (sounded goes done (frac (n + sum_by (width (64 * r)) (v ∷ vs)) (64 * r)) (partial r x (sum_by (width (64 * r)) (v ∷ vs))))
  begun_heard done n x goes v [] start keys are =
      let is = All-head (IsCounted r) v [] are in
      let one : sum_by (width (64 * r)) (v ∷ []) ≡ width (64 * r) v + 0 = sum_by-cons (width (64 * r)) v [] in
      let same : width (64 * r) v ≡ sum_by (width (64 * r)) (v ∷ []) = omega (arith, one) in
      ap (hear_words (graced done (frac n (64 * r)) x.graces)) (append-nil (element_words flats (note_value x.keys v x.short goes)))
      ∙ first_heard flats x.keys v x.short goes done (frac n (64 * r)) x.graces keys is.well
      ∙ ap₂ (λ f (g : Frac × Frac). Some (sounded goes done f (record x { start = g.0; len = g.1 }))) (along n v is)
      (λ i. (sym start i, is.long i))
      ∙ ap (λ w. Some (sounded goes done (frac (n + w) (64 * r)) (partial r x w))) same
  begun_heard done n x goes v (w ∷ vs) start keys are =
      let is = All-head (IsCounted r) v (w ∷ vs) are in
      let more = sum_by-cons (width (64 * r)) v (w ∷ vs) in
      hear_more (graced done (frac n (64 * r)) x.graces) (holding done (frac (n + width (64 * r) v) (64 * r))
      (partial r x (width (64 * r) v)))
      (element_words flats (note_value x.keys v x.short true)) (words_of (notes x.keys false goes (w ∷ vs)))
      (first_heard flats x.keys v x.short true done (frac n (64 * r)) x.graces keys is.well
      ∙ ap₂ (λ f (g : Frac × Frac). Some (holding done f (record x { start = g.0; len = g.1 }))) (along n v is)
      (λ i. (sym start i, is.long i)))
      ∙ held_heard done (n + width (64 * r) v) (width (64 * r) v) x goes w vs keys (All-tail (IsCounted r) v (w ∷ vs) are)
      ∙ ap₂ (λ f s. Some (sounded goes done f (partial r x s)))
      (further n (width (64 * r) v) (sum_by (width (64 * r)) (w ∷ vs)) (sum_by (width (64 * r)) (v ∷ w ∷ vs)) more) (sym more)

  -- ---- the elements of a piece of a span, of at least one value

  pub later_piece : (done : List Span) (n m : ℕ) (x : Span) (goes : Bool) (vs : List Value) → AreKeys x.keys → All (IsCounted r) vs
      → 1 ≤ sum_by (width (64 * r)) vs
      → hear_words (holding done (frac n (64 * r)) (partial r x m)) (words_of (elements_of (Some x) false goes vs))
      ≡ Some (sounded goes done (frac (n + sum_by (width (64 * r)) vs) (64 * r)) (partial r x (m + sum_by (width (64 * r)) vs)))
  later_piece done n m x goes [] keys are long = absurd (omega (arith, long))
  later_piece done n m x goes (v ∷ vs) keys are long = held_heard done n m x goes v vs keys are

  graces_first : (done : List Span) (n : ℕ) (gs : List ℕ) (more : List Element) → All AreKeys gs
      → hear_words (resting done (frac n (64 * r))) (words_of (grace_elements gs ++ more))
      ≡ hear_words (graced done (frac n (64 * r)) gs) (words_of more)
  graces_first done n [] more are = refl
  graces_first done n (g ∷ gs) more are =
      hear_more (resting done (frac n (64 * r))) (graced done (frac n (64 * r)) (g ∷ gs)) (element_words flats (grace_group (g ∷ gs)))
      (words_of more)
      (group_heard flats g gs done (frac n (64 * r)) are)

  pub first_piece : (done : List Span) (n : ℕ) (x : Span) (goes : Bool) (vs : List Value) → x.start ≡ frac n (64 * r) → AreKeys x.keys
      → All AreKeys x.graces
      → All (IsCounted r) vs → 1 ≤ sum_by (width (64 * r)) vs
      → hear_words (resting done (frac n (64 * r))) (words_of (elements_of (Some x) true goes vs))
      ≡ Some (sounded goes done (frac (n + sum_by (width (64 * r)) vs) (64 * r)) (partial r x (sum_by (width (64 * r)) vs)))
  first_piece done n x goes [] start keys graces are long = absurd (omega (arith, long))
  first_piece done n x goes (v ∷ vs) start keys graces are long =
      graces_first done n x.graces (notes x.keys x.short goes (v ∷ vs)) graces ∙ begun_heard done n x goes v vs start keys are
