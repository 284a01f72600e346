-- The marks of values and notes.
use Rattle.std.specs.Prelude.{ℕ, Bool, true, false, ◌==◌, ◌&&◌, not, nat_le, List, length}
use Rattle.std.specs.List.{list_all}

-- two dots at most
abbrev pub are_dots : List ℕ → Bool
are_dots text = list_all (λ b. b == 46) text && nat_le (length text) 2

-- a mark stands at both or at neither
abbrev pub same_bool : Bool → Bool → Bool
same_bool true b = b
same_bool false b = not b
