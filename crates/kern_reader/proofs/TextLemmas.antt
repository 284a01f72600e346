-- The lines of a text, one after another, and the score of all.
use Rattle.std.proofs.Common.{◌≡◌, ℕ, ◌+◌, ◌^◌, ◌<◌, ◌≤◌, false, List, ◌∷◌, length, map, reverse, refl, sym, subst, arith, Some, None, add-one}
use Rattle.std.specs.Prelude.{All, Err}
use Rattle.std.proofs.lemmas.List.{length-map, length-reverse}
use Rattle.std.proofs.lemmas.List.Elements.{All-map, All-weaker}
use Rattle.kern_reader.specs.declared.fault.KernWhat.{KernWhat}
use Rattle.kern_reader.specs.declared.line.KernLine.{KernLine}
use Rattle.kern_reader.specs.declared.reading.Reading.{Reading}
use Rattle.kern_reader.specs.Columns.{columns_of, grid_of}
use Rattle.kern_reader.specs.Faults.{line_fault}
use Rattle.kern_reader.specs.Lines.{line_of}
use Rattle.kern_reader.specs.Outcome.{read_from}
use Rattle.kern_reader.specs.Reading.{IsReading}
use Rattle.kern_reader.specs.Score.{IsColumnOn, IsKernScore, IsTokenOn}
use Rattle.kern_reader.specs.Text.{is_skipped}
use Rattle.kern_reader.proofs.ColumnLemmas.{IsShort, columns_on, columns_short}
use Rattle.kern_reader.proofs.StepLemmas.{grid_fine}
use Rattle.rhythm_base.proofs.ListParts.{all_reversed}

pub read_next : (before : List KernLine) (number : ℕ) (text : List ℕ) (texts : List (List ℕ)) → is_skipped text ≡ false → line_fault before text ≡ None
    → read_from before number (text ∷ texts) ≡ read_from (line_of text ∷ before) (number + 1) texts
read_next before number text texts said none = rw (said, none, add-one) refl

pub read_stops : (before : List KernLine) (number : ℕ) (text : List ℕ) (texts : List (List ℕ)) (what : KernWhat) → is_skipped text ≡ false → line_fault before text ≡ Some what
    → read_from before number (text ∷ texts) ≡ Err (record { line = number; what = what })
read_stops before number text texts what said some = rw (said, some) refl

-- the score that was read
pub kern_score : (number : ℕ) (before : List KernLine) (r : Reading) → IsReading number before r → number < 2 ^ 32
    → IsKernScore (record { grid = r.grid; columns = r.columns.items })
kern_score number before r is small =
    let cols = columns_of before in
    let on : All (IsColumnOn (grid_of before)) (map reverse cols) =
    All-map (IsColumnOn (grid_of before)) reverse cols
    (All-weaker (IsColumnOn (grid_of before)) (λ column. IsColumnOn (grid_of before) (reverse column)) (λ column all. all_reversed (IsTokenOn (grid_of before)) column all) cols (columns_on before is.well)) in
    let few = is.few in
    let short : All (λ c. length c < 2 ^ 32) (map reverse cols) =
    All-map (λ c. length c < 2 ^ 32) reverse cols
    (All-weaker (IsShort (length before)) (λ column. length (reverse column) < 2 ^ 32) (λ column s. omega (arith, s, length-reverse column, few, small)) cols (columns_short before)) in
    record {
      some = (grid_fine number before r is).0;
      fine = (grid_fine number before r is).1;
      narrow = subst (λ xs. length xs ≤ 16) (sym is.columns) (subst (λ n. n ≤ 16) (sym (length-map cols reverse)) is.narrow);
      on = subst (λ xs. All (IsColumnOn r.grid) xs) (sym is.columns) (subst (λ g. All (IsColumnOn g) (map reverse cols)) (sym is.grid) on);
      short = subst (All (λ c. length c < 2 ^ 32)) (sym is.columns) short;
    }
