-- The lines of a text.
use Rattle.std.proofs.Common.{◌≡◌, ℕ, ◌<◌, ◌≤◌, ◌==◌, List, [], ◌∷◌, length, refl, ap, ◌∙◌, arith}
use Rattle.std.proofs.lemmas.List.Splits.{slice_split_first, length-slice_split}
use Rattle.std.specs.List.{after_first, before_first, position_or_len}
use Rattle.rhythm_base.proofs.Positions.{slice_split-missing}
use Rattle.text_words.specs.Lines.{text_lines, lines_of_pieces}

-- pieces follow one another
pub lines_among_more : (line : List ℕ) (pieces : List (List ℕ)) → 1 ≤ length pieces → lines_of_pieces (line ∷ pieces) ≡ line ∷ lines_of_pieces pieces
lines_among_more [] [] some = absurd (omega (arith, some))
lines_among_more (b ∷ line) [] some = absurd (omega (arith, some))
lines_among_more [] (next ∷ more) some = refl
lines_among_more (b ∷ line) (next ∷ more) some = refl

-- a line that a newline ends, and the text after it
pub lines_first : (text : List ℕ) → position_or_len (λ b. b == 10) text < length text
    → text_lines text ≡ before_first (λ b. b == 10) text ∷ text_lines (after_first (λ b. b == 10) text)
lines_first text within =
    ap lines_of_pieces (slice_split_first (λ b. b == 10) text 0 within)
    ∙ lines_among_more _ _ (omega (arith, length-slice_split (λ b. b == 10) (after_first (λ b. b == 10) text)))

-- a text without a newline is one line
pub lines_last : (text : List ℕ) → 0 < length text → length text ≤ position_or_len (λ b. b == 10) text → text_lines text ≡ text ∷ []
lines_last text some none = ap lines_of_pieces (slice_split-missing (λ b. b == 10) text none) ∙ one text some
  where
    one : (text : List ℕ) → 0 < length text → lines_of_pieces (text ∷ []) ≡ text ∷ []
    one [] some = absurd (omega (arith, some))
    one (b ∷ bs) some = refl
