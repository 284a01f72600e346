-- The lines of a text and the words of a line.
use Rattle.std.proofs.Common.{◌≡◌, ℕ, ◌+◌, ◌-◌, ◌<◌, ◌≤◌, ◌==◌, Bool, true, false, not, cond, List, [], ◌∷◌, length, get_or, take, drop, filter, zero, suc, refl, sym, ap, ◌∙◌, arith}
use Rattle.std.proofs.lemmas.Bool.Decides.{nat_tests}
use Rattle.std.proofs.lemmas.List.Splits.{slice_split-cons_no, slice_split-cons_yes, slice_split_first, length-slice_split}
use Rattle.std.specs.List.{after_first, before_first, onto_first, position_or_len, slice_split, starts_with}
use Rattle.std.specs.Prelude.{codes, nat_eq}
use Rattle.std.specs.Str.{bytes_eq}
use Rattle.rhythm_base.proofs.Texts.{bytes_eq-turned}
use Rattle.grammar_file.specs.Content.{says_something}
use Rattle.grammar_file.specs.Lines.{is_blank, lines_among, grammar_lines, newline, without_return, grammar_words}
use Rattle.rhythm_base.proofs.Positions.{slice_split-missing}

-- pieces follow one another
pub lines_among_more : (line : List ℕ) (pieces : List (List ℕ)) → 1 ≤ length pieces → lines_among (line ∷ pieces) ≡ without_return line ∷ lines_among pieces
lines_among_more line [] some = absurd (omega arith)
lines_among_more line (next ∷ more) some = refl

-- a line that a newline ends, and the text after it
pub lines_of-first : (text : List ℕ) → position_or_len (λ b. b == newline) text < length text
    → grammar_lines text ≡ without_return (before_first (λ b. b == newline) text) ∷ grammar_lines (after_first (λ b. b == newline) text)
lines_of-first text within =
    ap lines_among (slice_split_first (λ b. b == newline) text 0 within)
    ∙ lines_among_more _ _ (omega (arith, length-slice_split (λ b. b == newline) (after_first (λ b. b == newline) text)))

-- a text without a newline is one line
pub lines_of-last : (text : List ℕ) → 0 < length text → length text ≤ position_or_len (λ b. b == newline) text → grammar_lines text ≡ text ∷ []
lines_of-last text some none = ap lines_among (slice_split-missing (λ b. b == newline) text none) ∙ one text some
  where
    one : (text : List ℕ) → 0 < length text → lines_among (text ∷ []) ≡ text ∷ []
    one [] some = absurd (omega arith)
    one (b ∷ bs) some = refl

-- a blank in front
words_of-blank : (b : ℕ) (bs : List ℕ) → is_blank b ≡ true → grammar_words (b ∷ bs) ≡ grammar_words bs
words_of-blank b bs blank = ap (filter (λ word. not (length word == 0))) (slice_split-cons_yes is_blank b bs blank)

-- another byte in front begins the first word
says-first : (b : ℕ) (bs : List ℕ) → is_blank b ≡ false → says_something (grammar_words (b ∷ bs)) ≡ not (b == 35)
says-first b bs other =
    ap (λ pieces. says_something (filter (λ word. not (length word == 0)) pieces)) (slice_split-cons_no is_blank b bs other)
    ∙ at (slice_split is_blank bs)
  where
    begins : (piece : List ℕ) → starts_with nat_eq (b ∷ piece) (codes "#") ≡ (b == 35)
    begins piece = at (b == 35) refl
      where
        at : (t : Bool) → (b == 35) ≡ t → starts_with nat_eq (b ∷ piece) (codes "#") ≡ t
        at true e = grind (arith, nat_tests)
        at false e = grind (arith, nat_tests)

    at : (pieces : List (List ℕ)) → says_something (filter (λ word. not (length word == 0)) (onto_first b pieces)) ≡ not (b == 35)
    at [] = ap not (begins [])
    at (piece ∷ pieces) = let some : (suc (length piece) == 0) ≡ false = grind (arith, nat_tests) in rw some (ap not (begins piece))

-- the first byte that is no blank decides whether a line is content
pub says-at : (line : List ℕ) (i : ℕ) → position_or_len (λ b. not (is_blank b)) line ≡ i → i < length line
    → not (get_or line i 0 == 35) ≡ says_something (grammar_words line)
says-at [] i e within = absurd (omega arith)
says-at (b ∷ bs) i e within = at (is_blank b) refl i e within (says-at bs)
  where
    at : (t : Bool) → is_blank b ≡ t → (i : ℕ) → cond (not (not t)) (1 + position_or_len (λ b. not (is_blank b)) bs) 0 ≡ i → i < length (b ∷ bs)
        → ((j : ℕ) → position_or_len (λ b. not (is_blank b)) bs ≡ j → j < length bs → not (get_or bs j 0 == 35) ≡ says_something (grammar_words bs))
        → not (get_or (b ∷ bs) i 0 == 35) ≡ says_something (grammar_words (b ∷ bs))
    at true blank zero is within rest = absurd (omega arith)
    at true blank (suc i) is within rest = rest i (omega arith) (omega arith) ∙ ap says_something (sym (words_of-blank b bs blank))
    at false other zero is within rest = sym (says-first b bs other)
    at false other (suc i) is within rest = absurd (omega arith)

pub says-nothing : (line : List ℕ) → length line ≤ position_or_len (λ b. not (is_blank b)) line → false ≡ says_something (grammar_words line)
says-nothing [] none = refl
says-nothing (b ∷ bs) none = at (is_blank b) refl none (says-nothing bs)
  where
    at : (t : Bool) → is_blank b ≡ t → length (b ∷ bs) ≤ cond (not (not t)) (1 + position_or_len (λ b. not (is_blank b)) bs) 0
        → (length bs ≤ position_or_len (λ b. not (is_blank b)) bs → false ≡ says_something (grammar_words bs))
        → false ≡ says_something (grammar_words (b ∷ bs))
    at true blank less rest = rest (omega arith) ∙ ap says_something (sym (words_of-blank b bs blank))
    at false other less rest = absurd (omega arith)

-- a carriage return at the end, or none
pub without_return-some : (line : List ℕ) → bytes_eq (drop (length line - 1) line) (13 ∷ []) ≡ true → take (length line - 1) line ≡ without_return line
without_return-some line ends = rw (bytes_eq-turned _ _ true ends)

pub without_return-none : (line : List ℕ) → bytes_eq (drop (length line - 1) line) (13 ∷ []) ≡ false → line ≡ without_return line
without_return-none line ends = rw (bytes_eq-turned _ _ false ends)
