-- The lines of a text that was written line by line.
use Rattle.std.proofs.Common.{◌≡◌, ℕ, suc, ◌-◌, ◌≤◌, ◌==◌, List, ◌∷◌, ◌++◌, length, take, refl, ap, ◌∙◌, arith}
use Rattle.std.specs.Prelude.{slice_get}
use Rattle.std.proofs.lemmas.List.Splits.{length-slice_split, slice_split_at}
use Rattle.rhythm_base.specs.Lists.{last_of}
use Rattle.edit_script.specs.ScriptLines.{between_newlines, open_line, script_lines}
use Rattle.script_writer.proofs.PrintedBytes.{IsPrinting, no_newline}

-- the lines of what stands between newlines
abbrev lines_among : List (List ℕ) → List (List ℕ)
lines_among pieces = take (length pieces - 1) pieces ++ open_line (last_of pieces)

lines_more : (line : List ℕ) (pieces : List (List ℕ)) → 1 ≤ length pieces → lines_among (line ∷ pieces) ≡ line ∷ lines_among pieces
lines_more line pieces some =
    let count : length (line ∷ pieces) - 1 ≡ suc (length pieces - 1) = omega (arith, some) in
    ap (λ n. take n (line ∷ pieces) ++ open_line (slice_get (line ∷ pieces) n)) count

-- the first line is what stands before the first newline
pub first_line : (line text : List ℕ) → IsPrinting line → script_lines (line ++ 10 ∷ text) ≡ line ∷ script_lines text
first_line line text printing =
    ap lines_among (slice_split_at (λ b. b == 10) line 10 text (no_newline line printing) refl)
    ∙ lines_more line (between_newlines text) (omega (arith, length-slice_split (λ b. b == 10) text))
