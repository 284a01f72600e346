-- The lines of a text.
use Rattle.std.specs.Prelude.{ℕ, ◌==◌, Bool, false, List, [], ◌∷◌}
use Rattle.std.specs.List.{slice_split}

-- The lines among the pieces between newlines. A newline ends each piece but the last; that one is a line where it has a byte
abbrev pub lines_of_pieces : List (List ℕ) → List (List ℕ)
lines_of_pieces [] = []
lines_of_pieces ([] ∷ []) = []
lines_of_pieces ((byte ∷ bytes) ∷ []) = (byte ∷ bytes) ∷ []
lines_of_pieces (line ∷ next ∷ more) = line ∷ lines_of_pieces (next ∷ more)

abbrev pub text_lines : List ℕ → List (List ℕ)
text_lines text = lines_of_pieces (slice_split (λ b. b == 10) text)

-- the first byte of a line
abbrev pub begins_with : ℕ → List ℕ → Bool
begins_with byte [] = false
begins_with byte (b ∷ bs) = b == byte
