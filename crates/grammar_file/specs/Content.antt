-- The lines of a text that say something, with their numbers. Lines without words and comments say nothing, and count.
use Rattle.std.specs.Prelude.{ℕ, ◌+◌, ◌≤◌, Bool, false, not, List, [], ◌∷◌, length, drop, filter, codes, nat_eq}
use Rattle.std.specs.List.{starts_with}
use Rattle.grammar_file.specs.Lines.{grammar_lines, grammar_words}
use Rattle.grammar_file.specs.declared.line.Line.{Line}
use Rattle.grammar_file.specs.declared.line.Next.{Next}
use Rattle.grammar_file.specs.declared.line.Next.TheVariants as nexts

-- the lines that say something, and the number after that of the last line of any kind
pub record Content : Type 0 where
  pub lines : List Line
  pub end : ℕ

-- a comment's first word begins with `#`
abbrev pub says_something : List (List ℕ) → Bool
says_something [] = false
says_something (first ∷ more) = not (starts_with nat_eq first (codes "#"))

-- the lines with their numbers, which begin at n
abbrev pub numbered_lines : ℕ → List (List ℕ) → List Line
numbered_lines n [] = []
numbered_lines n (line ∷ lines) = record { number = n; words = grammar_words line } ∷ numbered_lines (n + 1) lines

-- what these lines hold, whose numbers begin at n
unfoldable pub content_from : ℕ → List (List ℕ) → Content
content_from n lines = record { lines = filter (λ line. says_something line.words) (numbered_lines n lines); end = n + length lines }

abbrev pub content_of : List ℕ → Content
content_of text = content_from 1 (grammar_lines text)

-- the first line, or the end
abbrev pub next_statement : Content → Next
next_statement content = at content.lines content.end
  where
    at : List Line → ℕ → Next
    at [] end = nexts.End end
    at (line ∷ lines) end = nexts.Line line

-- a line with this number and these words
abbrev pub line_with : ℕ → List (List ℕ) → Next
line_with number words = nexts.Line (record { number = number; words = words })

-- what stands after the first line
abbrev pub content_after_first : Content → Content
content_after_first content = record { lines = drop 1 content.lines; end = content.end }

-- a line's number is 1 at least, and that of the last line and one more at most
abbrev pub IsLineNumber : ℕ → ℕ → Type 0
IsLineNumber end number = (1 ≤ number) × (number ≤ end)

abbrev pub IsNext : ℕ → Next → Type 0
IsNext end (nexts.Line line) = IsLineNumber end line.number
IsNext end (nexts.End number) = IsLineNumber end number
