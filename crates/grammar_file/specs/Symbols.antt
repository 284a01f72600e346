-- Names by their numbers.
use Rattle.std.specs.Prelude.{◌≡◌, ℕ, Bool, true, false, not, List, [], ◌∷◌, filter, map, Result, Ok, Err}
use Rattle.std.specs.List.{flat_map, list_all}
use Rattle.grammar_file.specs.Endings.{body_of_ending}
use Rattle.grammar_file.specs.Names.{is_known, symbol_of}
use Rattle.grammar_file.specs.declared.draft.Spoken.{Spoken}
use Rattle.grammar_file.specs.declared.fault.GrammarWhat.{GrammarWhat}
use Rattle.grammar_file.specs.declared.fault.GrammarWhat.TheVariants.{UnknownName}
use Rattle.grammar_file.specs.declared.said.NamedBody.{NamedBody}
use Rattle.grammar_file.specs.declared.said.NamedBody.TheVariants as named
use Rattle.grammar_file.specs.declared.said.Said.{Said}
use Rattle.grammar_file.specs.declared.said.Said.TheVariants as said
use Rattle.rhythm_base.specs.declared.grammar.Start.{Start}
use Rattle.rhythm_base.specs.declared.rule.Body.{Body}
use Rattle.rhythm_base.specs.declared.rule.Body.TheVariants as bodies
use Rattle.rhythm_base.specs.declared.rule.Rule.{Rule}

-- the names of parts, and parts with symbols for names
abbrev pub names_of_parts : List (ℕ × List ℕ) → List (List ℕ)
names_of_parts parts = map (λ part. part.1) parts

abbrev pub parts_with : List (List ℕ) → List (ℕ × List ℕ) → List (ℕ × ℕ)
parts_with names parts = map (λ part. (part.0, symbol_of names part.1)) parts

-- the names that a body uses
abbrev pub names_in : NamedBody → List (List ℕ)
names_in (named.Split names) = names
names_in (named.Parts parts) = names_of_parts parts
names_in (named.Ending ending) = []

-- the names that a line uses, but for a rule's left side
abbrev pub names_used : Said → List (List ℕ)
names_used (said.Start num den name) = name ∷ []
names_used (said.Rule name weight body) = names_in body

-- whether the line uses only known names
abbrev pub is_understood : List (List ℕ) → Spoken → Bool
is_understood names spoken = list_all (is_known names) (names_used spoken.said)

-- the lines that use an unknown name
abbrev pub not_understood : List (List ℕ) → List Spoken → List Spoken
not_understood names spoken = filter (λ line. not (is_understood names line)) spoken

-- the value, where the names are known
abbrev pub where_known : {A : Type 0} → Bool → A → Result A GrammarWhat
where_known true x = Ok x
where_known false x = Err UnknownName

-- a body over known names
abbrev pub body_with : List (List ℕ) → NamedBody → Body
body_with names (named.Split kids) = bodies.Split (map (symbol_of names) kids)
body_with names (named.Parts parts) = bodies.Parts (parts_with names parts)
body_with names (named.Ending ending) = body_of_ending ending

-- the symbol of a name, those of names, parts with symbols and a body with symbols, where all names are known
abbrev pub known_symbol : List (List ℕ) → List ℕ → Result ℕ GrammarWhat
known_symbol names name = where_known (is_known names name) (symbol_of names name)

abbrev pub known_symbols : List (List ℕ) → List (List ℕ) → Result (List ℕ) GrammarWhat
known_symbols names words = where_known (list_all (is_known names) words) (map (symbol_of names) words)

abbrev pub known_parts : List (List ℕ) → List (ℕ × List ℕ) → Result (List (ℕ × ℕ)) GrammarWhat
known_parts names parts = where_known (list_all (is_known names) (names_of_parts parts)) (parts_with names parts)

abbrev pub known_body : List (List ℕ) → NamedBody → Result Body GrammarWhat
known_body names named = where_known (list_all (is_known names) (names_in named)) (body_with names named)

-- the line uses an unknown name, and this is said of it
abbrev pub IsUnknownIn : List (List ℕ) → Spoken → GrammarWhat → Type 0
IsUnknownIn names spoken what = (what ≡ UnknownName) × (is_understood names spoken ≡ false)

-- the start or the rule of a line
abbrev pub start_in : List (List ℕ) → Spoken → List Start
start_in names spoken = at spoken.said
  where
    at : Said → List Start
    at (said.Start num den name) = record { num = num; den = den; symbol = symbol_of names name } ∷ []
    at (said.Rule name weight body) = []

abbrev pub rule_in : List (List ℕ) → Spoken → List Rule
rule_in names spoken = at spoken.said
  where
    at : Said → List Rule
    at (said.Start num den name) = []
    at (said.Rule name weight body) = record { lhs = symbol_of names name; weight = weight; body = body_with names body } ∷ []

-- the starts and the rules of the lines, in their order
abbrev pub starts_in : List (List ℕ) → List Spoken → List Start
starts_in names spoken = flat_map (start_in names) spoken

abbrev pub rules_in : List (List ℕ) → List Spoken → List Rule
rules_in names spoken = flat_map (rule_in names) spoken
