-- The text of a grammar: the header, the starts and the rules, one space between words, a newline after each line, and
-- numbers without leading zeros.
use Rattle.std.specs.Prelude.{ℕ, ◌==◌, if◌then◌else◌, List, [], ◌∷◌, ◌++◌, map, get_or, codes, Option, Some, None}
use Rattle.std.specs.Fmt.{decimal}
use Rattle.std.specs.List.{flat_map, join_with_byte}
use Rattle.rhythm_base.specs.Bodies.{Cut, cut_of, ending_of, equal, unequal}
use Rattle.rhythm_base.specs.Grammar.{Grammar}
use Rattle.rhythm_base.specs.declared.grammar.Start.{Start}
use Rattle.rhythm_base.specs.declared.rule.Body.{Body}
use Rattle.rhythm_base.specs.declared.rule.Ending.{Ending}
use Rattle.rhythm_base.specs.declared.rule.Rule.{Rule}
use Rattle.grammar_file.specs.Endings.{ending_words}
use Rattle.grammar_file.specs.Lines.{newline}

-- the text of a line of these words
abbrev pub line_text : List (List ℕ) → List ℕ
line_text words = join_with_byte 32 words ++ newline ∷ []

-- the name of a symbol
abbrev pub symbol_name : List (List ℕ) → ℕ → List ℕ
symbol_name names symbol = get_or names symbol []

-- the names of symbols, each after a space
abbrev pub names_text : List (List ℕ) → List ℕ → List ℕ
names_text names symbols = flat_map (λ s. 32 ∷ symbol_name names s) symbols

-- sizes and the names of symbols in turn, each after a space
abbrev pub sizes_text : List (List ℕ) → List (ℕ × ℕ) → List ℕ
sizes_text names parts = flat_map (λ q. 32 ∷ (decimal q.0 ++ 32 ∷ symbol_name names q.1)) parts

-- a line of a word and a number
abbrev pub number_line : List ℕ → ℕ → List ℕ
number_line word number = line_text (word ∷ decimal number ∷ [])

-- the words of the four lines of the header
abbrev pub weight_words : Grammar → List (List ℕ)
weight_words g = codes "onset" ∷ decimal g.early ∷ (if g.version == 2 then decimal g.late ∷ [] else [])

abbrev pub header_words : Grammar → List (List (List ℕ))
header_words g =
    (codes "rhythm" ∷ decimal g.version ∷ [])
    ∷ (codes "resolution" ∷ decimal g.resolution ∷ [])
    ∷ (codes "window" ∷ decimal g.window ∷ [])
    ∷ weight_words g
    ∷ []

abbrev pub weight_line : Grammar → List ℕ
weight_line g = line_text (weight_words g)

abbrev pub header_text : Grammar → List ℕ
header_text g = flat_map line_text (header_words g)

-- the words of a start line
abbrev pub start_words : List (List ℕ) → Start → List (List ℕ)
start_words names s = codes "start" ∷ (decimal s.num ++ codes "/" ++ decimal s.den) ∷ symbol_name names s.symbol ∷ []

abbrev pub start_line : List (List ℕ) → Start → List ℕ
start_line names s = line_text (start_words names s)

abbrev pub start_lines : List (List ℕ) → List Start → List ℕ
start_lines names starts = flat_map line_text (map (start_words names) starts)

-- the words that say how a body cuts its interval
abbrev pub cut_words : List (List ℕ) → Cut → List (List ℕ)
cut_words names (equal symbols) = codes "split" ∷ map (symbol_name names) symbols
cut_words names (unequal parts) = codes "parts" ∷ flat_map (λ part. decimal part.0 ∷ symbol_name names part.1 ∷ []) parts

-- the words after a rule's weight: they say how the body cuts its interval, or how it ends it
abbrev pub words_of_body : List (List ℕ) → Option Cut → Option Ending → List (List ℕ)
words_of_body names (Some cut) ending = cut_words names cut
words_of_body names None (Some ending) = ending_words ending
words_of_body names None None = []

abbrev pub body_words : List (List ℕ) → Body → List (List ℕ)
body_words names body = words_of_body names (cut_of body) (ending_of body)

abbrev pub body_text : List (List ℕ) → Body → List ℕ
body_text names body = join_with_byte 32 (body_words names body)

-- the words of a rule line
abbrev pub rule_words : List (List ℕ) → Rule → List (List ℕ)
rule_words names r = symbol_name names r.lhs ∷ decimal r.weight ∷ body_words names r.body

abbrev pub rule_line : List (List ℕ) → Rule → List ℕ
rule_line names r = line_text (rule_words names r)

abbrev pub rule_lines : List (List ℕ) → List Rule → List ℕ
rule_lines names rules = flat_map line_text (map (rule_words names) rules)

abbrev pub words_of_lines : Grammar → List (List (List ℕ))
words_of_lines g = header_words g ++ (map (start_words g.names) g.starts ++ map (rule_words g.names) g.rules)

unfoldable pub printed : Grammar → List ℕ
printed g = flat_map line_text (words_of_lines g)
