-- What a line after the header says by itself. It has one of the forms, or it is no such line; and the numbers of a form
-- lie in their ranges, or the first that does not is the fault.
use Rattle.rhythm_base.specs.declared.limits.TheConstants.{MOST_UNEQUAL_UNITS, MOST_PARTS, HEAVIEST_RULE}
use Rattle.std.specs.Prelude.{ℕ, ◌==◌, ◌&&◌, Bool, true, false, if◌then◌else◌, List, [], ◌∷◌, length, nat_le, Option, Some, None, option_map, Result, Ok, Err, codes}
use Rattle.std.specs.List.{after_first, before_first, list_all}
use Rattle.std.specs.Str.{bytes_eq}
use Rattle.grammar_file.specs.Endings.{ending_of_words, ending_word_of, has_ending_form}
use Rattle.grammar_file.specs.Names.{is_name}
use Rattle.grammar_file.specs.Numbers.{beat_of, is_numeral, number_within}
use Rattle.grammar_file.specs.Outcome.{◌>>=◌}
use Rattle.grammar_file.specs.declared.fault.GrammarWhat.{GrammarWhat}
use Rattle.grammar_file.specs.declared.fault.GrammarWhat.TheVariants.{Line}
use Rattle.grammar_file.specs.declared.kind.Kind.{Kind}
use Rattle.grammar_file.specs.declared.kind.Kind.TheVariants as kind
use Rattle.grammar_file.specs.declared.said.NamedBody.{NamedBody}
use Rattle.grammar_file.specs.declared.said.NamedBody.TheVariants as body
use Rattle.grammar_file.specs.declared.said.Said.{Said}
use Rattle.grammar_file.specs.declared.said.Said.TheVariants as said

-- `start NUM/DEN NAME`, without its first word
abbrev pub start_of : List ℕ → List ℕ → Result Said GrammarWhat
start_of signature name =
    let num = before_first (λ b. b == 47) signature in
    let den = after_first (λ b. b == 47) signature in
    if is_numeral num && is_numeral den && is_name name then (do
      beats ← number_within 1 64 num
      beat ← beat_of den
      Ok (said.Start beats beat name)) else Err Line

-- the word after a rule's weight
unfoldable pub kind_of : List ℕ → Option Kind
kind_of word =
    if bytes_eq word (codes "split") then Some kind.Split
    else if bytes_eq word (codes "parts") then Some kind.Parts
    else option_map kind.Ending (ending_word_of word)

-- sizes and names in turn
abbrev pub are_parts : List (List ℕ) → Bool
are_parts [] = true
are_parts (size ∷ []) = false
are_parts (size ∷ name ∷ more) = is_numeral size && is_name name && are_parts more

-- what stands after that word: 2 to 16 names, 2 to 16 sizes with their names in version 2, or what the ending has
abbrev pub has_form : ℕ → Kind → List (List ℕ) → Bool
has_form version kind.Split words = nat_le 2 (length words) && nat_le (length words) MOST_PARTS && list_all is_name words
has_form version kind.Parts words = (version == 2) && nat_le 4 (length words) && nat_le (length words) 32 && are_parts words
has_form version (kind.Ending word) words = has_ending_form word words

-- the sizes, each in its range, and the names
abbrev pub said_parts : List (List ℕ) → Result (List (ℕ × List ℕ)) GrammarWhat
said_parts (size ∷ name ∷ more) = do
  first ← number_within 1 MOST_UNEQUAL_UNITS size
  others ← said_parts more
  Ok ((first, name) ∷ others)
said_parts _ = Ok []

-- the body with these words after its first, where they have its form
abbrev pub body_of : Kind → List (List ℕ) → Result NamedBody GrammarWhat
body_of kind.Split words = Ok (body.Split words)
body_of kind.Parts words = said_parts words >>= λ parts. Ok (body.Parts parts)
body_of (kind.Ending word) words = ending_of_words word words >>= λ ending. Ok (body.Ending ending)

-- `NAME WEIGHT` and a body of this kind
abbrev pub rule_of_kind : ℕ → List ℕ → List ℕ → Option Kind → List (List ℕ) → Result Said GrammarWhat
rule_of_kind version name weight None words = Err Line
rule_of_kind version name weight (Some kind) words =
    if is_name name && is_numeral weight && has_form version kind words then (do
      w ← number_within 0 HEAVIEST_RULE weight
      b ← body_of kind words
      Ok (said.Rule name w b)) else Err Line

unfoldable pub said_by : ℕ → List (List ℕ) → Result Said GrammarWhat
said_by version (first ∷ second ∷ third ∷ words) =
    if bytes_eq first (codes "start") && (length words == 0) then start_of second third
    else rule_of_kind version first second (kind_of third) words
said_by version _ = Err Line
