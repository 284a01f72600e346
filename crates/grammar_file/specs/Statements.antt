-- The lines after the header, one after the other.
use Rattle.rhythm_base.specs.declared.limits.TheConstants.{MOST_RULES}
use Rattle.std.specs.Prelude.{ℕ, ◌==◌, ◌&&◌, Bool, true, false, if◌then◌else◌, List, [], ◌∷◌, ◌++◌, length, filter, nat_le, Option, Some, None, Result, Ok, Err}
use Rattle.std.specs.List.{flat_map, list_any}
use Rattle.grammar_file.specs.Names.{first_appearances, has_room}
use Rattle.grammar_file.specs.Outcome.{◌>>=◌, on_line}
use Rattle.grammar_file.specs.Said.{said_by}
use Rattle.grammar_file.specs.declared.draft.Spoken.{Spoken}
use Rattle.grammar_file.specs.declared.fault.GrammarFault.{GrammarFault}
use Rattle.grammar_file.specs.declared.fault.GrammarWhat.{GrammarWhat}
use Rattle.grammar_file.specs.declared.fault.GrammarWhat.TheVariants.{DoubleStart, TooManyNames, TooManyRules}
use Rattle.grammar_file.specs.declared.line.Line.{Line}
use Rattle.grammar_file.specs.declared.said.Said.{Said}
use Rattle.grammar_file.specs.declared.said.Said.TheVariants.{Start, Rule}

-- the name on the left side of a rule
abbrev pub left_side : Spoken → List (List ℕ)
left_side spoken = at spoken.said
  where
    at : Said → List (List ℕ)
    at (Start num den name) = []
    at (Rule name weight body) = name ∷ []

-- the left sides of the rules, in their order
abbrev pub left_sides : List Spoken → List (List ℕ)
left_sides spoken = flat_map left_side spoken

-- the names of the symbols: the left sides in the order of their first appearance
abbrev pub names_of : List Spoken → List (List ℕ)
names_of spoken = first_appearances (left_sides spoken)

-- whether the line gives a start to the signature
abbrev pub is_start_of : ℕ → ℕ → Spoken → Bool
is_start_of num den spoken = at spoken.said
  where
    at : Said → Bool
    at (Start n d name) = (n == num) && (d == den)
    at (Rule name weight body) = false

-- whether the line is a rule
abbrev pub is_rule : Spoken → Bool
is_rule spoken = at spoken.said
  where
    at : Said → Bool
    at (Start num den name) = false
    at (Rule name weight body) = true

-- what speaks against a line after what the lines before it say: a second start of a signature, a rule after 512
-- others, or a 65th name on the left side
abbrev pub conflict : List Spoken → Said → Option GrammarWhat
conflict before (Start num den name) = if list_any (is_start_of num den) before then Some DoubleStart else None
conflict before (Rule name weight body) =
    if nat_le MOST_RULES (length (filter is_rule before)) then Some TooManyRules
    else if has_room (names_of before) name then None
    else Some TooManyNames

-- the value, where nothing speaks against it
abbrev pub unless : {A : Type 0} → Option GrammarWhat → A → Result A GrammarWhat
unless None x = Ok x
unless (Some what) x = Err what

-- what a line says after what the lines before it say
abbrev pub spoken_by : ℕ → List Spoken → Line → Result Spoken GrammarWhat
spoken_by version before line = do
  said ← said_by version line.words
  unless (conflict before said) (record { line = line.number; said = said })

abbrev pub spoken_after : ℕ → List Spoken → Line → Result Spoken GrammarFault
spoken_after version before line = on_line line.number (spoken_by version before line)

-- what read gives of each element after what it gave of those before it, or the first fault
abbrev pub in_turn : {A B E : Type 0} → (List B → A → Result B E) → List B → List A → Result (List B) E
in_turn read before [] = Ok before
in_turn read before (x ∷ xs) = read before x >>= λ y. in_turn read (before ++ y ∷ []) xs

-- what all lines say
abbrev pub all_spoken : ℕ → List Line → Result (List Spoken) GrammarFault
all_spoken version lines = in_turn (spoken_after version) [] lines
