-- The numbers that texts say.
use Rattle.std.specs.Prelude.{ℕ, Bool, false, ◌&&◌, nat_le, nat_lt, if◌then◌else◌, List, [], ◌∷◌, Option, Some, None}
use Rattle.std.specs.Char.{is_ascii_digit}
use Rattle.std.specs.List.{list_all}
use Rattle.std.specs.Str.Parse.{digits_value}

-- decimal digits, the first of which is not 0
abbrev pub is_plain : List ℕ → Bool
is_plain [] = false
is_plain (d ∷ ds) = (nat_le 49 d && nat_le d 57) && list_all is_ascii_digit ds

-- the number from 1 to a greatest one that a text says
unfoldable pub number_of : ℕ → List ℕ → Option ℕ
number_of most text = if is_plain text && nat_le (digits_value 10 text) most then Some (digits_value 10 text) else None

-- a number that is a key
abbrev pub within_keys : ℕ → Option ℕ
within_keys key = if nat_lt key 128 then Some key else None
