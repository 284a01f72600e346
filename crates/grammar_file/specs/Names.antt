-- The names of symbols.
use Rattle.rhythm_base.specs.declared.limits.TheConstants.{MOST_NAMES}
use Rattle.std.specs.Prelude.{ℕ, ◌==◌, ◌&&◌, ◌||◌, Bool, cond, false, not, List, [], ◌∷◌, ◌++◌, length, filter, nat_le, nat_lt}
use Rattle.std.specs.Char.{is_ascii_alphanumeric, is_ascii_uppercase}
use Rattle.std.specs.List.{list_all, list_any, position_or_len}
use Rattle.std.specs.Str.{bytes_eq}

-- a letter, a digit or `_`
unfoldable pub is_name_byte : ℕ → Bool
is_name_byte b = is_ascii_alphanumeric b || (b == 95)

-- an upper-case letter and up to 15 such bytes
unfoldable pub is_name : List ℕ → Bool
is_name [] = false
is_name (first ∷ rest) = is_ascii_uppercase first && nat_le (length rest) 15 && list_all is_name_byte rest

-- the texts in the order of their first appearance, each once
abbrev pub first_appearances : List (List ℕ) → List (List ℕ)
first_appearances [] = []
first_appearances (text ∷ texts) = text ∷ filter (λ other. not (bytes_eq other text)) (first_appearances texts)

-- whether the name is among the names
abbrev pub is_known : List (List ℕ) → List ℕ → Bool
is_known names name = list_any (bytes_eq name) names

-- whether the name is among the names, or may be the next one
abbrev pub has_room : List (List ℕ) → List ℕ → Bool
has_room names name = is_known names name || nat_lt (length names) MOST_NAMES

-- the names with one more, if they lack it
abbrev pub with_name : List (List ℕ) → List ℕ → List (List ℕ)
with_name names name = cond (is_known names name) names (names ++ name ∷ [])

-- the symbol of a known name: its place among the names
abbrev pub symbol_of : List (List ℕ) → List ℕ → ℕ
symbol_of names name = position_or_len (bytes_eq name) names
