-- One line more.
use Rattle.std.proofs.Common.{◌≡◌, ℕ, zero, suc, ◌*◌, ◌/◌, ◌^◌, ◌<◌, ◌≤◌, Bool, true, false, List, [], ◌∷◌, ◌++◌, length, map, reverse, refl, sym, ap, ◌∙◌, subst, arith, ap₂, Option, Some, None}
use Rattle.std.specs.Prelude.{All, if◌then◌else◌, replicate}
use Rattle.std.specs.Int.{◌∣◌}
use Rattle.std.specs.List.{flat_map, zip}
use Rattle.std.proofs.Math.Nat.{div-mul_cancel, div_self, dvd_refl, mul-le-mul_left, mul-le-mul_right, mul_comm}
use Rattle.std.proofs.lemmas.List.{length-map, length-replicate, reverse-append}
use Rattle.std.proofs.lemmas.List.Elements.{All-cons, All-head, All-nil, All-tail, All-weaker}
use Rattle.std.proofs.lemmas.Slice.Zip.{length-zip}
use Rattle.kern_reader.specs.declared.fault.KernWhat.{KernWhat}
use Rattle.kern_reader.specs.declared.line.KernLine.{KernLine}
use Rattle.kern_reader.specs.declared.line.KernLine.TheVariants.{Heading, Signature, Other, Ending, Barline, LastBarline, Data, Unread}
use Rattle.kern_reader.specs.declared.reading.Reading.{Reading}
use Rattle.text_words.specs.declared.time_signature.TimeSignature.{TimeSignature}
use Rattle.kern_reader.specs.declared.token.Token.{Token}
use Rattle.kern_reader.specs.declared.token.Token.TheVariants as token
use Rattle.kern_reader.specs.Columns.{add_bar, add_token, announced, columns_of, current_bar, first_spine, IsGridWith, grid_of, grid_with, line_values, place, rescaled, spine_after, spine_at, spines_of, stage_of, token_values}
use Rattle.kern_reader.specs.Faults.{first_fault, line_fault, said_tests, text_tests}
use Rattle.kern_reader.specs.Lines.{IsWellLine, line_of}
use Rattle.kern_reader.specs.Reading.{Adds, HasWidth, IsCountable, IsReading, barred_columns, barred_spines}
use Rattle.kern_reader.specs.Score.{IsColumnOn}
use Rattle.kern_reader.specs.Text.{columns}
use Rattle.kern_reader.proofs.ColumnLemmas.{IsShort, columns_on, columns_short, grid_some}
use Rattle.kern_reader.proofs.GridLemmas.{grid_multiple}
use Rattle.kern_reader.proofs.SpineLemmas.{place_few, spine_next, spine_scaled, waiting_few}

-- ---- the fault of a line in two parts

first_of : (xs ys : List (Bool × KernWhat)) → first_fault xs ≡ None → first_fault (xs ++ ys) ≡ first_fault ys
first_of [] ys none = refl
first_of (x ∷ xs) ys none = at x.0 none (first_of xs ys)
  where
    at : (b : Bool) → (if b then Some x.1 else first_fault xs) ≡ None → (first_fault xs ≡ None → first_fault (xs ++ ys) ≡ first_fault ys)
        → (if b then Some x.1 else first_fault (xs ++ ys)) ≡ first_fault ys
    at true none rest = cc
    at false none rest = rest none

found_first : (xs ys : List (Bool × KernWhat)) (what : KernWhat) → first_fault xs ≡ Some what → first_fault (xs ++ ys) ≡ Some what
found_first [] ys what some = cc
found_first (x ∷ xs) ys what some = at x.0 some (found_first xs ys what)
  where
    at : (b : Bool) → (if b then Some x.1 else first_fault xs) ≡ Some what → (first_fault xs ≡ Some what → first_fault (xs ++ ys) ≡ Some what)
        → (if b then Some x.1 else first_fault (xs ++ ys)) ≡ Some what
    at true some rest = some
    at false some rest = rest some

-- the tests of a reading are those of the lines before
same_text_tests : (number : ℕ) (before : List KernLine) (r : Reading) (text : List ℕ) → IsReading number before r
    → text_tests r.stage (length r.spines.items) text ≡ text_tests (stage_of before) (length (columns_of before)) text
same_text_tests number before r text is =
    let count : length r.spines.items ≡ length (columns_of before) = ap length is.spines ∙ length-map (columns_of before) (spine_at (grid_of before)) in
    ap (λ s. text_tests s (length r.spines.items) text) is.stage ∙ ap (λ n. text_tests (stage_of before) n text) count

same_said_tests : (number : ℕ) (before : List KernLine) (r : Reading) (line : KernLine) → IsReading number before r
    → said_tests r.stage r.grid r.bar r.announced r.spines.items line ≡ said_tests (stage_of before) (grid_of before) (current_bar before) (announced before) (spines_of before) line
same_said_tests number before r line is =
    ap (λ s. said_tests s r.grid r.bar r.announced r.spines.items line) is.stage
    ∙ ap (λ g. said_tests (stage_of before) g r.bar r.announced r.spines.items line) is.grid
    ∙ ap (λ b. said_tests (stage_of before) (grid_of before) b r.announced r.spines.items line) is.bar
    ∙ ap (λ b. said_tests (stage_of before) (grid_of before) (current_bar before) b r.spines.items line) is.next
    ∙ ap (λ b. said_tests (stage_of before) (grid_of before) (current_bar before) (announced before) b line) is.spines

pub faulty_text : (number : ℕ) (before : List KernLine) (r : Reading) (text : List ℕ) (what : KernWhat) → IsReading number before r
    → first_fault (text_tests r.stage (length r.spines.items) text) ≡ Some what → line_fault before text ≡ Some what
unfolding line_fault
faulty_text number before r text what is found =
    found_first (text_tests (stage_of before) (length (columns_of before)) text) (said_tests (stage_of before) (grid_of before) (current_bar before) (announced before) (spines_of before) (line_of text)) what (ap first_fault (sym (same_text_tests number before r text is)) ∙ found)

pub faulty_line : (number : ℕ) (before : List KernLine) (r : Reading) (text : List ℕ) (what : KernWhat) → IsReading number before r
    → first_fault (text_tests r.stage (length r.spines.items) text) ≡ None
    → first_fault (said_tests r.stage r.grid r.bar r.announced r.spines.items (line_of text)) ≡ Some what → line_fault before text ≡ Some what
unfolding line_fault
faulty_line number before r text what is none found =
    first_of (text_tests (stage_of before) (length (columns_of before)) text) (said_tests (stage_of before) (grid_of before) (current_bar before) (announced before) (spines_of before) (line_of text)) (ap first_fault (sym (same_text_tests number before r text is)) ∙ none)
    ∙ ap first_fault (sym (same_said_tests number before r (line_of text) is)) ∙ found

pub faultless_line : (number : ℕ) (before : List KernLine) (r : Reading) (text : List ℕ) → IsReading number before r
    → first_fault (text_tests r.stage (length r.spines.items) text) ≡ None
    → first_fault (said_tests r.stage r.grid r.bar r.announced r.spines.items (line_of text)) ≡ None → line_fault before text ≡ None
unfolding line_fault
faultless_line number before r text is none found =
    first_of (text_tests (stage_of before) (length (columns_of before)) text) (said_tests (stage_of before) (grid_of before) (current_bar before) (announced before) (spines_of before) (line_of text)) (ap first_fault (sym (same_text_tests number before r text is)) ∙ none)
    ∙ ap first_fault (sym (same_said_tests number before r (line_of text) is)) ∙ found

-- ---- what can be counted on

pub grid_fine : (number : ℕ) (before : List KernLine) (r : Reading) → IsReading number before r → (1 ≤ r.grid) × (r.grid ≤ 61440)
grid_fine number before r is = (subst (λ g. 1 ≤ g) (sym is.grid) (grid_some before is.well), subst (λ g. g ≤ 61440) (sym is.grid) is.fine)

countable_columns : (number grid times : ℕ) (columns : List (List Token)) → number < 2 ^ 32 → grid * times ≤ 61440 → 1 ≤ times
    → All (IsColumnOn grid) columns → All (IsShort number) columns → All (IsCountable times) (map (spine_at grid) columns)
countable_columns number grid times [] small fine some on short = All-nil (IsCountable times)
countable_columns number grid times (column ∷ columns) small fine some on short =
    let long = All-head (IsShort number) column columns short in
    let few = place_few grid column (All-head (IsColumnOn grid) column columns on) in
    let times_place : place grid column * times ≤ 7 * grid * length column * times = mul-le-mul_right times few in
    let turned : 7 * grid * length column * times ≡ 7 * length column * (grid * times) = grind arith in
    let most : 7 * length column * (grid * times) ≤ 7 * length column * 61440 = mul-le-mul_left (7 * length column) fine in
    All-cons (IsCountable times) (spine_at grid column) (map (spine_at grid) columns) (omega (arith, times_place, turned, most, long), omega (arith, waiting_few column, long))
    (countable_columns number grid times columns small fine some (All-tail (IsColumnOn grid) column columns on) (All-tail (IsShort number) column columns short))

pub countable : (number finer : ℕ) (before : List KernLine) (r : Reading) → IsReading number before r → number < 2 ^ 32 → finer ≤ 61440 → 1 ≤ finer → r.grid ∣ finer
    → All (IsCountable (finer / r.grid)) r.spines.items
countable number finer before r is small fine some divides =
    let g = grid_of before in
    let whole : finer / r.grid * r.grid ≡ finer = div-mul_cancel r.grid divides in
    let turned : g * (finer / r.grid) ≡ finer = ap (λ x. x * (finer / r.grid)) (sym is.grid) ∙ mul_comm r.grid (finer / r.grid) ∙ whole in
    let some_times : 1 ≤ finer / r.grid = positive (finer / r.grid) r.grid (subst (λ x. 1 ≤ x) (sym whole) some) in
    let short = All-weaker (IsShort (length before)) (IsShort number) (λ column s. omega (arith, s, is.few)) (columns_of before) (columns_short before) in
    subst (All (IsCountable (finer / r.grid))) (sym is.spines)
    (countable_columns number g (finer / r.grid) (columns_of before) small (subst (λ x. x ≤ 61440) (sym turned) fine) some_times (columns_on before is.well) short)
  where
    positive : (t g : ℕ) → 1 ≤ t * g → 1 ≤ t
    positive zero g h = absurd (omega (arith, h))
    positive (suc t) g h = omega arith

pub places_small : (number : ℕ) (before : List KernLine) (r : Reading) → IsReading number before r → number < 2 ^ 32 → All (λ s. s.place < 2 ^ 56) r.spines.items
places_small number before r is small =
    let (some, fine) = grid_fine number before r is in
    let one : r.grid / r.grid ≡ 1 = div_self some in
    let all = subst (λ t. All (IsCountable t) r.spines.items) one (countable number r.grid before r is small fine some (dvd_refl r.grid)) in
    All-weaker (IsCountable 1) (λ s. s.place < 2 ^ 56) (λ s h. omega (arith, h.0)) r.spines.items all

pub countable_finer : (number finer : ℕ) (before : List KernLine) (r : Reading) (line : KernLine) → IsReading number before r → number < 2 ^ 32
    → IsWellLine line → IsGridWith r.grid (line_values line) (Some finer) → All (IsCountable (finer / r.grid)) r.spines.items
countable_finer number finer before r line is small well (same, fine) =
    let some = grid_some (line ∷ before) (All-cons IsWellLine line before well is.well) in
    let here : finer ≡ grid_of (line ∷ before) = same ∙ ap (λ g. grid_with g (line_values line)) is.grid in
    countable number finer before r is small fine (subst (λ g. 1 ≤ g) (sym here) some) (subst (λ g. r.grid ∣ g) (sym same) (grid_multiple r.grid (line_values line)))

-- ---- the line is added

passed : (grid times : ℕ) (ts : List Token) (columns : List (List Token)) → All (IsColumnOn grid) columns
    → map (λ p. spine_after (grid * times) (rescaled times p.1) p.0) (zip ts (map (spine_at grid) columns)) ≡ map (spine_at (grid * times)) (map add_token (zip ts columns))
passed grid times [] columns on = refl
passed grid times (t ∷ ts) [] on = refl
passed grid times (t ∷ ts) (column ∷ columns) on =
    let one : spine_after (grid * times) (rescaled times (spine_at grid column)) t ≡ spine_at (grid * times) (t ∷ column) =
    ap (λ s. spine_after (grid * times) s t) (sym (spine_scaled grid times column (All-head (IsColumnOn grid) column columns on))) ∙ sym (spine_next (grid * times) t column) in
    ap₂ ◌∷◌ one (passed grid times ts columns (All-tail (IsColumnOn grid) column columns on))

reversed : (t : Token) (column : List Token) → reverse column ++ (t ∷ []) ≡ reverse (t ∷ column)
reversed t column = sym (reverse-append (t ∷ []) column)

appended : (ts : List Token) (columns : List (List Token)) → map (λ p. p.1 ++ p.0 ∷ []) (zip ts (map reverse columns)) ≡ map reverse (map add_token (zip ts columns))
appended [] columns = refl
appended (t ∷ ts) [] = refl
appended (t ∷ ts) (column ∷ columns) = ap₂ ◌∷◌ (reversed t column) (appended ts columns)

barred : (signature : Option TimeSignature) (grid : ℕ) (columns : List (List Token)) → barred_spines signature (map (spine_at grid) columns) ≡ map (spine_at grid) (map (add_bar signature) columns)
barred None grid [] = refl
barred None grid (column ∷ columns) = ap (λ xs. spine_at grid column ∷ xs) (barred None grid columns)
barred (Some signature) grid [] = refl
barred (Some signature) grid (column ∷ columns) = ap₂ ◌∷◌ (sym (spine_next grid (token.Bar signature) column)) (barred (Some signature) grid columns)

bar_appended : (signature : Option TimeSignature) (columns : List (List Token)) → barred_columns signature (map reverse columns) ≡ map reverse (map (add_bar signature) columns)
bar_appended None [] = refl
bar_appended None (column ∷ columns) = ap (λ xs. reverse column ∷ xs) (bar_appended None columns)
bar_appended (Some signature) [] = refl
bar_appended (Some signature) (column ∷ columns) = ap₂ ◌∷◌ (reversed (token.Bar signature) column) (bar_appended (Some signature) columns)

begun_spines : (grid count : ℕ) → replicate count first_spine ≡ map (spine_at grid) (replicate count [])
begun_spines grid zero = refl
begun_spines grid (suc count) = ap (λ xs. first_spine ∷ xs) (begun_spines grid count)

begun_columns : (count : ℕ) → replicate count [] ≡ map reverse (replicate count (let column : List Token = [] in column))
begun_columns zero = refl
begun_columns (suc count) = ap (λ xs. [] ∷ xs) (begun_columns count)

-- a line that changes no spine
still : (number finer : ℕ) (before : List KernLine) (line : KernLine) (old new : Reading) → IsReading number before old → IsWellLine line
    → new.spines.items ≡ old.spines.items → new.columns.items ≡ old.columns.items → new.grid ≡ old.grid → new.announced ≡ announced (line ∷ before)
    → new.bar ≡ current_bar (line ∷ before) → new.stage ≡ stage_of (line ∷ before) → columns_of (line ∷ before) ≡ columns_of before → grid_of (line ∷ before) ≡ grid_of before
    → IsReading (suc number) (line ∷ before) new
still number finer before line old new is well spines columns grid next bar stage same_columns same_grid = record {
  spines = spines ∙ is.spines ∙ ap (λ g. map (spine_at g) (columns_of before)) (sym same_grid) ∙ ap (map (spine_at (grid_of (line ∷ before)))) (sym same_columns);
  columns = columns ∙ is.columns ∙ ap (map reverse) (sym same_columns);
  grid = grid ∙ is.grid ∙ sym same_grid;
  next = next;
  bar = bar;
  stage = stage;
  well = All-cons IsWellLine line before well is.well;
  fine = subst (λ g. g ≤ 61440) (sym same_grid) is.fine;
  few = omega (arith, is.few);
  narrow = subst (λ xs. length xs ≤ 16) (sym same_columns) is.narrow;
}

pub added : (number finer : ℕ) (before : List KernLine) (line : KernLine) (old new : Reading) → IsReading number before old → Adds line finer old new
    → IsWellLine line → HasWidth line (length old.spines.items) → IsGridWith old.grid (line_values line) (Some finer)
    → IsReading (suc number) (line ∷ before) new
added number finer before (Heading count) old new is adds well width (same, fine) = record {
  spines = adds.spines ∙ begun_spines (grid_of before) count;
  columns = adds.columns ∙ begun_columns count;
  grid = adds.grid ∙ same ∙ is.grid;
  next = adds.next ∙ is.next;
  bar = adds.bar ∙ is.bar;
  stage = adds.stage;
  well = All-cons IsWellLine (Heading count) before well is.well;
  fine = is.fine;
  few = omega (arith, is.few);
  narrow = omega (arith, length-replicate count (let column : List Token = [] in column), width);
}
added number finer before (Signature signature) old new is adds well width (same, fine) =
    still number finer before (Signature signature) old new is well adds.spines adds.columns (adds.grid ∙ same) adds.next (adds.bar ∙ is.bar) adds.stage refl refl
added number finer before Other old new is adds well width (same, fine) =
    still number finer before Other old new is well adds.spines adds.columns (adds.grid ∙ same) (adds.next ∙ is.next) (adds.bar ∙ is.bar) adds.stage refl refl
added number finer before Ending old new is adds well width (same, fine) =
    still number finer before Ending old new is well adds.spines adds.columns (adds.grid ∙ same) (adds.next ∙ is.next) (adds.bar ∙ is.bar) adds.stage refl refl
added number finer before LastBarline old new is adds well width (same, fine) =
    still number finer before LastBarline old new is well adds.spines adds.columns (adds.grid ∙ same) (adds.next ∙ is.next) (adds.bar ∙ is.bar) adds.stage refl refl
added number finer before Unread old new is adds well width (same, fine) =
    still number finer before Unread old new is well adds.spines adds.columns (adds.grid ∙ same) (adds.next ∙ is.next) (adds.bar ∙ is.bar) adds.stage refl refl
added number finer before Barline old new is adds well width (same, fine) = record {
  spines = adds.spines ∙ ap (λ o. barred_spines o old.spines.items) is.next ∙ ap (barred_spines (announced before)) is.spines ∙ barred (announced before) (grid_of before) (columns_of before);
  columns = adds.columns ∙ ap (λ o. barred_columns o old.columns.items) is.next ∙ ap (barred_columns (announced before)) is.columns ∙ bar_appended (announced before) (columns_of before);
  grid = adds.grid ∙ same ∙ is.grid;
  next = adds.next ∙ is.next;
  bar = adds.bar ∙ is.next;
  stage = adds.stage;
  well = All-cons IsWellLine Barline before well is.well;
  fine = is.fine;
  few = omega (arith, is.few);
  narrow = subst (λ n. n ≤ 16) (sym (length-map (columns_of before) (add_bar (announced before)))) is.narrow;
}
added number finer before (Data tokens) old new is adds well width (same, fine) =
    let vs = flat_map token_values tokens in
    let g = grid_of before in
    let whole : finer ≡ grid_with g vs = same ∙ ap (λ x. grid_with x vs) is.grid in
    let divides : g ∣ finer = subst (λ x. g ∣ x) (sym whole) (grid_multiple g vs) in
    let times : g * (finer / g) ≡ finer = mul_comm g (finer / g) ∙ div-mul_cancel g divides in
    record {
      spines = adds.spines ∙ ap (λ x. map (λ p. spine_after finer (rescaled (finer / x) p.1) p.0) (zip tokens old.spines.items)) is.grid
          ∙ ap (λ xs. map (λ p. spine_after finer (rescaled (finer / g) p.1) p.0) (zip tokens xs)) is.spines
          ∙ ap (λ x. map (λ p. spine_after x (rescaled (finer / g) p.1) p.0) (zip tokens (map (spine_at g) (columns_of before)))) (sym times)
          ∙ passed g (finer / g) tokens (columns_of before) (columns_on before is.well)
          ∙ ap (λ x. map (spine_at x) (map add_token (zip tokens (columns_of before)))) (times ∙ whole);
      columns = adds.columns ∙ ap (λ xs. map (λ p. p.1 ++ p.0 ∷ []) (zip tokens xs)) is.columns ∙ appended tokens (columns_of before);
      grid = adds.grid ∙ whole;
      next = adds.next ∙ is.next;
      bar = adds.bar ∙ is.bar;
      stage = adds.stage;
      well = All-cons IsWellLine (Data tokens) before well is.well;
      fine = subst (λ x. x ≤ 61440) whole fine;
      few = omega (arith, is.few);
      narrow = omega (arith, length-map (zip tokens (columns_of before)) add_token, length-zip tokens (columns_of before), is.narrow);
    }

pub same_lengths : (number : ℕ) (before : List KernLine) (r : Reading) → IsReading number before r → length r.columns.items ≡ length r.spines.items
same_lengths number before r is =
    ap length is.columns ∙ length-map (columns_of before) reverse ∙ sym (ap length is.spines ∙ length-map (columns_of before) (spine_at (grid_of before)))
