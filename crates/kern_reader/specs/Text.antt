-- The columns of a line, and which lines say nothing.
use Rattle.std.specs.Prelude.{ℕ, suc, length, ◌==◌, Bool, List, [], Option, Some, None}
use Rattle.std.specs.List.{slice_split}
use Rattle.text_words.specs.Lines.{begins_with}

-- what stands between the bytes of this kind
abbrev pub pieces : ℕ → List ℕ → List (List ℕ)
pieces byte text = slice_split (λ b. b == byte) text

-- tabs stand between the columns
abbrev pub columns : List ℕ → List (List ℕ)
columns line = pieces 9 line

-- a line that begins with an exclamation mark is counted, and says nothing
abbrev pub is_skipped : List ℕ → Bool
is_skipped line = begins_with 33 line

-- the pieces of what is left of a text; none where nothing is
abbrev pub pieces_in : ℕ → Option (List ℕ) → List (List ℕ)
pieces_in byte None = []
pieces_in byte (Some text) = pieces byte text

-- how much text is left, one more than its length where there is some
abbrev pub text_left : Option (List ℕ) → ℕ
text_left None = 0
text_left (Some text) = suc (length text)
