-- The lines of a script, one after another.
use Rattle.std.proofs.Common.{◌≡◌, ◌∙◌, ◌<◌, ◌≤◌, ◌-◌, ◌+◌, ◌++◌, ◌==◌, ℕ, suc, List, [], ◌∷◌, length, take, slice_get, arith, ap, refl, sym, Some}
use Rattle.std.specs.List.{after_first, before_first, position_or_len, slice_split}
use Rattle.std.proofs.lemmas.List.Splits.{length-slice_split}
use Rattle.edit_script.specs.ScriptLines.{between_newlines, open_line, script_lines}
use Rattle.text_words.proofs.LineLemmas.{lines_first, lines_last}
use Rattle.text_words.specs.Lines.{text_lines, lines_of_pieces}
use Rattle.rhythm_base.specs.Lists.{last_of}

-- the lines among pieces
abbrev among : List (List ℕ) → List (List ℕ)
among pieces = take (length pieces - 1) pieces ++ open_line (last_of pieces)

among_more : (piece next : List ℕ) (pieces : List (List ℕ)) → among (piece ∷ next ∷ pieces) ≡ piece ∷ among (next ∷ pieces)
among_more piece next pieces = ap (λ n. take n (piece ∷ next ∷ pieces) ++ open_line (slice_get (piece ∷ next ∷ pieces) n)) count
  where
    count : length (piece ∷ next ∷ pieces) - 1 ≡ suc (length (next ∷ pieces) - 1)
    count = omega arith

are_among : (pieces : List (List ℕ)) → 0 < length pieces → lines_of_pieces pieces ≡ among pieces
are_among [] some = absurd (omega (arith, some))
are_among ([] ∷ []) some = refl
are_among ((b ∷ bytes) ∷ []) some = refl
are_among (piece ∷ next ∷ pieces) some = ap (λ l. piece ∷ l) (are_among (next ∷ pieces) (omega arith)) ∙ sym (among_more piece next pieces)

-- they are as those of any text
pub as_text : (text : List ℕ) → text_lines text ≡ script_lines text
as_text text = are_among (slice_split (λ b. b == 10) text) (omega (arith, length-slice_split (λ b. b == 10) text))

-- the first line, up to a newline
pub first_of_lines : (text : List ℕ) → position_or_len (λ b. b == 10) text < length text
    → script_lines text ≡ before_first (λ b. b == 10) text ∷ script_lines (after_first (λ b. b == 10) text)
first_of_lines text within =
    sym (as_text text) ∙ lines_first text within ∙ ap (λ l. before_first (λ b. b == 10) text ∷ l) (as_text (after_first (λ b. b == 10) text))

-- a script without a newline is one line
pub last_of_lines : (text : List ℕ) → 0 < length text → length text ≤ position_or_len (λ b. b == 10) text → script_lines text ≡ text ∷ []
last_of_lines text some none = sym (as_text text) ∙ lines_last text some none
