-- The lines of a text and the words of a line.
use Rattle.std.specs.Prelude.{ℕ, ◌-◌, ◌==◌, ◌||◌, Bool, not, if◌then◌else◌, List, [], ◌∷◌, length, take, filter, map, nat_eq}
use Rattle.std.specs.Borrow.{Bor}
use Rattle.std.specs.List.{ends_with, slice_split}

-- borrowed texts
abbrev pub texts : List (Bor (List ℕ)) → List (List ℕ)
texts borrowed = map (λ text. text.now) borrowed

abbrev pub newline : ℕ
newline = 10

abbrev pub carriage_return : ℕ
carriage_return = 13

-- a space or a tab
abbrev pub is_blank : ℕ → Bool
is_blank b = (b == 32) || (b == 9)

-- a line without one carriage return at its end
abbrev pub without_return : List ℕ → List ℕ
without_return line = if ends_with nat_eq line (carriage_return ∷ []) then take (length line - 1) line else line

-- the lines among the pieces between newlines. A newline ends each piece but the last; that one is a line, as it stands,
-- where it has a byte
abbrev pub lines_among : List (List ℕ) → List (List ℕ)
lines_among [] = []
lines_among ([] ∷ []) = []
lines_among ((byte ∷ bytes) ∷ []) = (byte ∷ bytes) ∷ []
lines_among (line ∷ next ∷ more) = without_return line ∷ lines_among (next ∷ more)

abbrev pub grammar_lines : List ℕ → List (List ℕ)
grammar_lines text = lines_among (slice_split (λ b. b == newline) text)

-- what stands between the blanks of a line, where it has a byte
abbrev pub grammar_words : List ℕ → List (List ℕ)
grammar_words line = filter (λ word. not (length word == 0)) (slice_split is_blank line)
