-- The lines that say something, one after the other.
use Rattle.std.proofs.Common.{◌≡◌, ℕ, ◌+◌, ◌≤◌, true, false, List, [], ◌∷◌, length, filter, refl, sym, ap, ◌∙◌, arith}
use Rattle.grammar_file.specs.Content.{Content, IsLineNumber, content_after_first, content_from, line_with, next_statement, numbered_lines, says_something}
use Rattle.grammar_file.specs.Lines.{grammar_lines, grammar_words}
use Rattle.grammar_file.specs.declared.line.Line.{Line}
use Rattle.grammar_file.specs.declared.line.Next.TheVariants.{End}

abbrev said_of : ℕ → List (List ℕ) → List Line
said_of n lines = filter (λ line. says_something line.words) (numbered_lines n lines)

abbrev content : List Line → ℕ → Content
content lines end = record { lines = lines; end = end }

-- a line that says nothing
pub content-skipped : (n : ℕ) (line : List ℕ) (lines : List (List ℕ)) → says_something (grammar_words line) ≡ false
    → content_from (n + 1) lines ≡ content_from n (line ∷ lines)
unfolding content_from
content-skipped n line lines nothing = rw nothing (ap (content (said_of (n + 1) lines)) (omega arith))

-- a line that says something
pub content-said : (n : ℕ) (line : List ℕ) (lines : List (List ℕ)) → says_something (grammar_words line) ≡ true
    → (line_with n (grammar_words line) ≡ next_statement (content_from n (line ∷ lines))) × (content_from (n + 1) lines ≡ content_after_first (content_from n (line ∷ lines)))
unfolding content_from
content-said n line lines something = rw something (refl, ap (content (said_of (n + 1) lines)) (omega arith))

-- no text
pub content-end : (n : ℕ) (text : List ℕ) → length text ≡ 0
    → (End n ≡ next_statement (content_from n (grammar_lines text))) × (content_from n (grammar_lines text) ≡ content_after_first (content_from n (grammar_lines text)))
unfolding content_from
content-end n [] none = (ap End (omega arith), refl)
content-end n (b ∷ bs) none = absurd (omega arith)

-- the number after the last line
pub content_from-end : (n : ℕ) (lines : List (List ℕ)) → (content_from n lines).end ≡ n + length lines
unfolding content_from
content_from-end n lines = refl

-- the next line, or the end, has a number of the text
pub next-line : (n : ℕ) (line : List ℕ) (lines : List (List ℕ)) (content : Content) → 1 ≤ n → content_from n (line ∷ lines) ≡ content → IsLineNumber content.end n
next-line n line lines content some is =
    let end = sym (content_from-end n (line ∷ lines)) ∙ ap (λ (c : Content). c.end) is in
    (some, omega (arith, end))

pub next-end : (n : ℕ) (text : List ℕ) (content : Content) → 1 ≤ n → length text ≡ 0 → content_from n (grammar_lines text) ≡ content → IsLineNumber content.end n
next-end n text content some none is =
    let end = sym (content_from-end n (grammar_lines text)) ∙ ap (λ (c : Content). c.end) is in
    (some, omega (arith, end))

-- that of a whole text
pub content-last : (text : List ℕ) (content : Content) → content ≡ content_from 1 (grammar_lines text) → content.end ≡ length (grammar_lines text) + 1
content-last text content is = ap (λ (c : Content). c.end) is ∙ content_from-end 1 (grammar_lines text) ∙ omega arith
