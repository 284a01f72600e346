-- The grammar that a file says, or its first fault. A line with an unknown name comes after all other faults, since names
-- may be used above the lines that they stand at the left of.
use Rattle.std.specs.Prelude.{All, ℕ, List, [], ◌∷◌, drop, Result, Ok, Err}
use Rattle.grammar_file.specs.Content.{Content, IsLineNumber, content_of}
use Rattle.grammar_file.specs.Header.{header_of}
use Rattle.grammar_file.specs.Outcome.{◌>>=◌}
use Rattle.grammar_file.specs.Statements.{in_turn, names_of, spoken_after}
use Rattle.grammar_file.specs.Symbols.{not_understood, rules_in, starts_in}
use Rattle.grammar_file.specs.declared.draft.Spoken.{Spoken}
use Rattle.grammar_file.specs.declared.fault.GrammarFault.{GrammarFault}
use Rattle.grammar_file.specs.declared.fault.GrammarWhat.TheVariants.{UnknownName}
use Rattle.grammar_file.specs.declared.header.Header.{Header}
use Rattle.grammar_file.specs.declared.read.Placed.{Placed}
use Rattle.rhythm_base.specs.Grammar.{Grammar}
use Rattle.rhythm_base.specs.declared.grammar.Start.{Start}
use Rattle.rhythm_base.specs.declared.rule.Rule.{Rule}

-- the starts and the rules of the lines
abbrev pub starts_and_rules : List (List ℕ) → List Spoken → List Start × List Rule
starts_and_rules names spoken = (starts_in names spoken, rules_in names spoken)

-- the lines have numbers up to the end
abbrev pub AreWithin : ℕ → List Spoken → Type 0
AreWithin end spoken = All (λ line. IsLineNumber end line.line) spoken

-- the grammar of a header and lines that use only known names
abbrev pub grammar_of_parts : Header → List Spoken → Grammar
grammar_of_parts header spoken = record {
  version = header.version;
  resolution = header.resolution;
  window = header.window;
  early = header.early;
  late = header.late;
  names = names_of spoken;
  starts = starts_in (names_of spoken) spoken;
  rules = rules_in (names_of spoken) spoken;
}

-- the first line that is not understood is the fault
abbrev pub understood : {A : Type 0} → A → List Spoken → Result A GrammarFault
understood value [] = Ok value
understood value (first ∷ others) = Err (record { line = first.line; what = UnknownName })

abbrev pub placed_by : List (List ℕ) → List Spoken → Result (List Start × List Rule) GrammarFault
placed_by names spoken = understood (starts_and_rules names spoken) (not_understood names spoken)

-- what was placed, as contracts see it
abbrev pub seen_placed : Placed → List Start × List Rule
seen_placed placed = (placed.starts.items, placed.rules.items)

abbrev pub grammar_of_lines : Header → List Spoken → Result Grammar GrammarFault
grammar_of_lines header spoken =
    understood (grammar_of_parts header spoken) (not_understood (names_of spoken) spoken)

abbrev pub grammar_of_content : Content → Result Grammar GrammarFault
grammar_of_content content = do
  header ← header_of content
  spoken ← in_turn (spoken_after header.version) [] (drop 4 content.lines)
  grammar_of_lines header spoken

unfoldable pub grammar_of : List ℕ → Result Grammar GrammarFault
grammar_of text = grammar_of_content (content_of text)
