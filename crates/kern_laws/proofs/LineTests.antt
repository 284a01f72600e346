-- A line of data that may stand after those before it.
use Rattle.std.proofs.Common.{◌≡◌, ℕ, suc, ◌*◌, ◌≤◌, ◌==◌, Bool, true, false, not, ◌&&◌, ◌||◌, List, [], ◌∷◌, length, map, refl, sym, ap, ap₂, ◌∙◌, subst, arith, inl, inr, Some, None}
use Rattle.std.specs.Prelude.{All, if◌then◌else◌}
use Rattle.std.specs.Int.{◌∣◌}
use Rattle.std.specs.List.{flat_map, list_all, list_any, zip}
use Rattle.std.proofs.Math.Nat.{eq_of_mul-eq-mul_right, le_of_dvd, le_of_mul-le-mul_right}
use Rattle.std.proofs.lemmas.Bool.{false≢true, le-ltb}
use Rattle.std.proofs.lemmas.Bool.Decides.{nat_tests}
use Rattle.std.proofs.lemmas.List.Elements.{All-append, All-cons, All-head, All-nil, All-tail}
use Rattle.rhythm_base.specs.Lists.{Each, least_of}
use Rattle.kern_reader.specs.declared.fault.KernWhat.{KernWhat}
use Rattle.kern_reader.specs.declared.fault.KernWhat.TheVariants as what
use Rattle.text_words.specs.declared.time_signature.TimeSignature.{TimeSignature}
use Rattle.kern_reader.specs.declared.token.Token.{Token}
use Rattle.kern_reader.specs.Columns.{add_token, announced, columns_of, current_bar, grid_of, grid_with, open_keys, place, spine_at, spines_of, stage_of, token_values, waiting}
use Rattle.kern_reader.specs.Faults.{first_fault, has_no_grid, has_wrong_grace, has_wrong_tie, is_grace, is_grace_wrong, is_head_stage, is_misplaced, is_null, is_tie_wrong, is_unread, is_wrong_bar, least_place, said_tests, stands}
use Rattle.kern_reader.specs.Lines.{IsWellLine, line_of}
use Rattle.kern_reader.specs.Score.{Counts, IsColumnOn}
use Rattle.kern_reader.specs.Tokens.{IsWellToken}
use Rattle.kern_reader.proofs.ColumnLemmas.{columns_on}
use Rattle.kern_reader.proofs.SpineLemmas.{spine_scaled}
use Rattle.kern_laws.specs.Lines.{KernLine}
use Rattle.kern_laws.proofs.ScoreLines.{Body, Data, ending_line, HasTurn, Head, Last, Over, Stage}
use Rattle.kern_laws.proofs.GridParts.{grid_divides, finer_times}
use Rattle.kern_laws.proofs.LineLists.{Every, HasOne, least_from}
use Rattle.kern_laws.proofs.LineWalk.{IsGood}
use Rattle.kern_laws.proofs.PlaceParts.{IsHeard}
use Rattle.rhythm_base.proofs.PairedLists.{each_length}

-- after the head, with values on a grid that is as fine as can be read
pub record IsBody (n grid : ℕ) (before : List KernLine) : Type 0 where
  pub stage : stage_of before ≡ Body
  pub well : All IsWellLine before
  pub divides : grid_of before ∣ grid
  pub wide : length (columns_of before) ≡ n

pub record IsInside (n grid : ℕ) (signature : TimeSignature) (before : List KernLine) : Type 0 where
  pub body : IsBody n grid before
  pub bar : current_bar before ≡ Some signature
  pub next : announced before ≡ Some signature

-- ---- faults, one after another

no_fault : (b : Bool) (what : KernWhat) (more : List (Bool × KernWhat)) → b ≡ false → first_fault more ≡ None → first_fault ((b, what) ∷ more) ≡ None
no_fault b what more e rest = ap (λ t. if t then Some what else first_fault more) e ∙ rest

-- a line that stands, test by test
pub said_right : (before : List KernLine) (line : KernLine) → is_unread (stage_of before) line ≡ false → has_no_grid (grid_of before) line ≡ false
    → is_misplaced (current_bar before) (spines_of before) line ≡ false → has_wrong_grace (spines_of before) line ≡ false
    → is_wrong_bar (grid_of before) (current_bar before) (announced before) (spines_of before) line ≡ false → has_wrong_tie (spines_of before) line ≡ false
    → first_fault (said_tests (stage_of before) (grid_of before) (current_bar before) (announced before) (spines_of before) line) ≡ None
said_right before line read on_grid placed grace full tie =
    let ties = (has_wrong_tie (spines_of before) line, what.Tie) ∷ [] in
    let bars = (is_wrong_bar (grid_of before) (current_bar before) (announced before) (spines_of before) line, what.Bar) ∷ ties in
    let graces = (has_wrong_grace (spines_of before) line, what.Grace) ∷ bars in
    let places = (is_misplaced (current_bar before) (spines_of before) line, what.Place) ∷ graces in
    let grids = (has_no_grid (grid_of before) line, what.Grid) ∷ places in
    no_fault (is_unread (stage_of before) line) what.Token grids read
    (no_fault (has_no_grid (grid_of before) line) what.Grid places on_grid
    (no_fault (is_misplaced (current_bar before) (spines_of before) line) what.Place graces placed
    (no_fault (has_wrong_grace (spines_of before) line) what.Grace bars grace
    (no_fault (is_wrong_bar (grid_of before) (current_bar before) (announced before) (spines_of before) line) what.Bar ties full
    (no_fault (has_wrong_tie (spines_of before) line) what.Tie [] tie refl)))))

-- ---- places on a coarser grid

test_scaled : (p q t : ℕ) → 1 ≤ t → (p * t == q * t) ≡ (p == q)
test_scaled p q t some = go (p == q) refl
  where
    go : (b : Bool) → (p == q) ≡ b → (p * t == q * t) ≡ b
    go true e = let same : p ≡ q = grind (arith, nat_tests, e) in let whole : p * t ≡ q * t = ap (λ x. x * t) same in grind (arith, nat_tests, whole)
    go false e = other (p * t == q * t) refl
      where
        other : (b : Bool) → (p * t == q * t) ≡ b → b ≡ false
        other false f = refl
        other true f =
            let whole : p * t ≡ q * t = grind (arith, nat_tests, f) in
            let same : p ≡ q = eq_of_mul-eq-mul_right t some p q whole in
            let yes : (p == q) ≡ true = grind (arith, nat_tests, same) in
            absurd (false≢true (sym e ∙ yes))

stands_scaled : (graces : Bool) (q t p : ℕ) (x : Token) → 1 ≤ t → stands graces (q * t) x (p * t) ≡ stands graces q x p
stands_scaled true q t p x some = ap (λ b. is_null x || (is_grace x && b)) (test_scaled p q t some)
stands_scaled false q t p x some = ap (λ b. if is_null x then not b else b) (test_scaled p q t some)

module _ (g t : ℕ) (some : 1 ≤ t) where
  place_scaled : (column : List Token) → IsColumnOn g column → place (g * t) column ≡ place g column * t
  place_scaled column on = ap (λ s. s.place) (spine_scaled g t column on)

  -- ---- the least place

  one_place : (m : ℕ) (columns : List (List Token)) → All (IsColumnOn g) columns → HasOne (λ c. place (g * t) c ≡ m) columns → (q : ℕ) × (q * t ≡ m)
  one_place m [] on one = absurd one
  one_place m (column ∷ columns) on (inl e) = (place g column, sym (place_scaled column (All-head (IsColumnOn g) column columns on)) ∙ e)
  one_place m (column ∷ columns) on (inr rest) = one_place m columns (All-tail (IsColumnOn g) column columns on) rest

  places_of : List (List Token) → List ℕ
  places_of columns = map (λ s. s.place) (map (spine_at g) columns)

  low_places : (q : ℕ) (columns : List (List Token)) → All (IsColumnOn g) columns → Every (λ c. q * t ≤ place (g * t) c) columns → Every (λ x. q ≤ x) (map (λ s. s.place) (map (spine_at g) columns))
  low_places q [] on low = tt
  low_places q (column ∷ columns) on (here, rest) =
      let scaled = place_scaled column (All-head (IsColumnOn g) column columns on) in
      (le_of_mul-le-mul_right (subst (λ x. q * t ≤ x) scaled here) some, low_places q columns (All-tail (IsColumnOn g) column columns on) rest)

  least_one : (q : ℕ) (columns : List (List Token)) → All (IsColumnOn g) columns → HasOne (λ c. place (g * t) c ≡ q * t) columns → HasOne (λ x. x ≡ q) (map (λ s. s.place) (map (spine_at g) columns))
  least_one q [] on one = absurd one
  least_one q (column ∷ columns) on (inl e) = inl (eq_of_mul-eq-mul_right t some (place g column) q (sym (place_scaled column (All-head (IsColumnOn g) column columns on)) ∙ e))
  least_one q (column ∷ columns) on (inr rest) = inr (least_one q columns (All-tail (IsColumnOn g) column columns on) rest)

  least_of_is : (q : ℕ) (xs : List ℕ) → Every (λ x. q ≤ x) xs → HasOne (λ x. x ≡ q) xs → least_of xs ≡ q
  least_of_is q [] low one = absurd one
  least_of_is q (x ∷ xs) (here, rest) one = least_from q x xs here rest one

  pub least_is : (m : ℕ) (columns : List (List Token)) → All (IsColumnOn g) columns → Every (λ c. m ≤ place (g * t) c) columns → HasOne (λ c. place (g * t) c ≡ m) columns
      → (q : ℕ) × (q * t ≡ m) × (least_place (map (spine_at g) columns) ≡ q)
  least_is m columns on low one =
      let (q, e) = one_place m columns on one in
      let low_q = subst (λ x. Every (λ c. x ≤ place (g * t) c) columns) (sym e) low in
      let one_q = subst (λ x. HasOne (λ c. place (g * t) c ≡ x) columns) (sym e) one in
      (q, e, least_of_is q (map (λ s. s.place) (map (spine_at g) columns)) (low_places q columns on low_q) (least_one q columns on one_q))

  -- ---- the tests of a line of data

  and_true : (a b : Bool) → a ≡ true → b ≡ true → (a && b) ≡ true
  and_true a b e f = ap₂ ◌&&◌ e f

  or_false : (a b : Bool) → a ≡ false → b ≡ false → (a || b) ≡ false
  or_false a b e f = ap₂ ◌||◌ e f

  all_placed : (q : ℕ) (graces : Bool) (ts : List Token) (columns : List (List Token)) → All (IsColumnOn g) columns → Each (IsHeard (g * t) (q * t) graces) ts columns
      → list_all (λ pair. stands graces q pair.0 pair.1.place) (zip ts (map (spine_at g) columns)) ≡ true
  all_placed q graces [] columns on each = refl
  all_placed q graces (x ∷ ts) [] on each = refl
  all_placed q graces (x ∷ ts) (column ∷ columns) on (own, rest) =
      let scaled = place_scaled column (All-head (IsColumnOn g) column columns on) in
      let one = sym (stands_scaled graces q t (place g column) x some) ∙ ap (stands graces (q * t) x) (sym scaled) ∙ own.stands in
      and_true (stands graces q x (place g column)) (list_all (λ pair. stands graces q pair.0 pair.1.place) (zip ts (map (spine_at g) columns)))
      one (all_placed q graces ts columns (All-tail (IsColumnOn g) column columns on) rest)

  no_grace : (m : ℕ) (graces : Bool) (ts : List Token) (columns : List (List Token)) → Each (IsHeard (g * t) m graces) ts columns
      → list_any (λ pair. is_grace_wrong pair.0 pair.1.graces) (zip ts (map (spine_at g) columns)) ≡ false
  no_grace m graces [] columns each = refl
  no_grace m graces (x ∷ ts) [] each = refl
  no_grace m graces (x ∷ ts) (column ∷ columns) (own, rest) =
      or_false (is_grace_wrong x (length (waiting column))) (list_any (λ pair. is_grace_wrong pair.0 pair.1.graces) (zip ts (map (spine_at g) columns))) own.grace (no_grace m graces ts columns rest)

  no_tie : (m : ℕ) (graces : Bool) (ts : List Token) (columns : List (List Token)) → Each (IsHeard (g * t) m graces) ts columns
      → list_any (λ pair. is_tie_wrong pair.0 pair.1.tied) (zip ts (map (spine_at g) columns)) ≡ false
  no_tie m graces [] columns each = refl
  no_tie m graces (x ∷ ts) [] each = refl
  no_tie m graces (x ∷ ts) (column ∷ columns) (own, rest) =
      or_false (is_tie_wrong x (open_keys column)) (list_any (λ pair. is_tie_wrong pair.0 pair.1.tied) (zip ts (map (spine_at g) columns))) own.tie (no_tie m graces ts columns rest)

all_count : (grid m : ℕ) (graces : Bool) (ts : List Token) (columns : List (List Token)) → Each (IsHeard grid m graces) ts columns → All (Counts grid) (flat_map token_values ts)
all_count grid m graces [] columns each = All-nil (Counts grid)
all_count grid m graces (x ∷ ts) [] each = absurd each
all_count grid m graces (x ∷ ts) (column ∷ columns) (own, rest) = All-append (Counts grid) (token_values x) (flat_map token_values ts) own.counts (all_count grid m graces ts columns rest)

all_well : (grid m : ℕ) (graces : Bool) (ts : List Token) (columns : List (List Token)) → Each (IsHeard grid m graces) ts columns → All IsWellToken ts
all_well grid m graces [] columns each = All-nil IsWellToken
all_well grid m graces (x ∷ ts) [] each = absurd each
all_well grid m graces (x ∷ ts) (column ∷ columns) (own, rest) = All-cons IsWellToken x ts own.well (all_well grid m graces ts columns rest)

length_added : (ts : List Token) (columns : List (List Token)) → length columns ≡ length ts → length (map add_token (zip ts columns)) ≡ length columns
length_added [] columns e = sym e
length_added (t ∷ ts) [] e = refl
length_added (t ∷ ts) (column ∷ columns) e = ap suc (length_added ts columns (less e))
  where
    less : suc (length columns) ≡ suc (length ts) → length columns ≡ length ts
    less e = omega (arith, e)

pub finest : (n grid : ℕ) (before : List KernLine) → 1 ≤ grid → IsBody n grid before → (t : ℕ) × (1 ≤ t) × (grid_of before * t ≡ grid)
finest n grid before some is = finer_times (grid_of before) grid some is.divides

-- ---- turns

body_head : Body ≡ Head → ⊥
body_head e = cc

body_last : Body ≡ Last → ⊥
body_last e = cc

body_over : Body ≡ Over → ⊥
unfolding line_of
body_over e = cc

pub body_turn : (at : Stage) (line : KernLine) → at ≡ Body → (line ≡ ending_line → ⊥) → HasTurn at line
body_turn at line e other = record {
  head = λ h. absurd (body_head (sym e ∙ h));
  body = λ h. other;
  last = λ h. absurd (body_last (sym e ∙ h));
  over = λ h. body_over (sym e ∙ h);
}

pub data_other : (ts : List Token) → Data ts ≡ ending_line → ⊥
unfolding line_of
data_other ts e = cc

pub is_body : (at : Stage) → at ≡ Body → is_head_stage at ≡ false
is_body at e = ap is_head_stage e

-- ---- a line of data

pub data_good : (n grid m : ℕ) (signature : TimeSignature) (before : List KernLine) (ts : List Token) → 1 ≤ grid → grid ≤ 61440 → IsInside n grid signature before
    → Each (IsHeard grid m (list_any is_grace ts)) ts (columns_of before) → Every (λ c. m ≤ place grid c) (columns_of before) → HasOne (λ c. place grid c ≡ m) (columns_of before)
    → IsGood n before (Data ts) × IsInside n grid signature (Data ts ∷ before)
unfolding is_unread has_no_grid is_wrong_bar is_misplaced has_wrong_grace has_wrong_tie
data_good n grid m signature before ts some few is each low one = (
  record { turn = body_turn (stage_of before) (Data ts) is.body.stage (data_other ts); wide = λ h. is.body.wide; faultless = faultless },
  record {
    body = record {
      stage = refl;
      well = All-cons IsWellLine (Data ts) before (all_well grid m graces ts columns each) is.body.well;
      divides = divides;
      wide = length_added ts columns (each_length (IsHeard grid m graces) ts columns each) ∙ is.body.wide;
    };
    bar = is.bar;
    next = is.next;
  },
)
  where
    columns : List (List Token)
    columns = columns_of before

    graces : Bool
    graces = list_any is_grace ts

    divides : grid_with (grid_of before) (flat_map token_values ts) ∣ grid
    divides = grid_divides grid (grid_of before) (flat_map token_values ts) some is.body.divides (all_count grid m graces ts columns each)

    unread : is_unread (stage_of before) (Data ts) ≡ false
    unread = refl

    on_grid : has_no_grid (grid_of before) (Data ts) ≡ false
    on_grid = le-ltb 61440 (grid_with (grid_of before) (flat_map token_values ts)) (omega (arith, le_of_dvd {m = grid_with (grid_of before) (flat_map token_values ts)} {n = grid} some divides, few))

    bar : is_wrong_bar (grid_of before) (current_bar before) (announced before) (spines_of before) (Data ts) ≡ false
    bar = refl

    at : (t : ℕ) × (1 ≤ t) × (grid_of before * t ≡ grid) → first_fault (said_tests (stage_of before) (grid_of before) (current_bar before) (announced before) (spines_of before) (Data ts)) ≡ None
    at (t, positive, finer) =
        let g = grid_of before in
        let on = columns_on before is.body.well in
        let each_g : Each (IsHeard (g * t) m graces) ts columns = subst (λ x. Each (IsHeard x m graces) ts columns) (sym finer) each in
        let low_g : Every (λ c. m ≤ place (g * t) c) columns = subst (λ x. Every (λ c. m ≤ place x c) columns) (sym finer) low in
        let one_g : HasOne (λ c. place (g * t) c ≡ m) columns = subst (λ x. HasOne (λ c. place x c ≡ m) columns) (sym finer) one in
        said_right before (Data ts) unread on_grid
        (placed g t positive on each_g (least_is g t positive m columns on low_g one_g)) (graces_right g t positive each_g) bar (ties_right g t positive each_g)
      where
        placed : (g t : ℕ) (positive : 1 ≤ t) → All (IsColumnOn g) columns → Each (IsHeard (g * t) m graces) ts columns → (q : ℕ) × (q * t ≡ m) × (least_place (map (spine_at g) columns) ≡ q)
            → is_misplaced (current_bar before) (map (spine_at g) columns) (Data ts) ≡ false
        placed g t positive on each (q, e, least) =
            let each_q : Each (IsHeard (g * t) (q * t) graces) ts columns = subst (λ x. Each (IsHeard (g * t) x graces) ts columns) (sym e) each in
            let all = all_placed g t positive q graces ts columns on each_q in
            ap (λ o. is_misplaced o (map (spine_at g) columns) (Data ts)) is.bar
            ∙ ap not (ap (λ x. list_all (λ pair. stands graces x pair.0 pair.1.place) (zip ts (map (spine_at g) columns))) least ∙ all)

        graces_right : (g t : ℕ) (positive : 1 ≤ t) → Each (IsHeard (g * t) m graces) ts columns → has_wrong_grace (map (spine_at g) columns) (Data ts) ≡ false
        graces_right g t positive each = no_grace g t positive m graces ts columns each

        ties_right : (g t : ℕ) (positive : 1 ≤ t) → Each (IsHeard (g * t) m graces) ts columns → has_wrong_tie (map (spine_at g) columns) (Data ts) ≡ false
        ties_right g t positive each = no_tie g t positive m graces ts columns each

    faultless : first_fault (said_tests (stage_of before) (grid_of before) (current_bar before) (announced before) (spines_of before) (Data ts)) ≡ None
    faultless = at (finest n grid before some is.body)
