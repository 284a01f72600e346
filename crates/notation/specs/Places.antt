-- Places and lengths in a bar, in parts of 1/(64 * resolution) of a whole note, and which of them are plain.
use Rattle.std.specs.Prelude.{◌≡◌, ℕ, ◌*◌, ◌/◌, ◌%◌, ◌==◌, ◌^◌, Bool, ◌&&◌}
use Rattle.std.specs.Int.{is_power_of_two}

-- the parts of a whole note
abbrev pub whole_of : ℕ → ℕ
whole_of resolution = 64 * resolution

-- the parts of a quarter note
abbrev pub quarter_of : ℕ → ℕ
quarter_of resolution = 16 * resolution

-- the odd part of a number: what is left where it is halved as often as it goes
abbrev pub IsOddPart : ℕ → ℕ → Type 0
IsOddPart number odd = (halvings : ℕ) × (number ≡ odd * 2 ^ halvings) × (odd % 2 ≡ 1)

-- A place is plain where the odd part of the resolution divides it: there it is a whole number of halves, quarters, eighths .. of a
-- whole note. The start and the end of a bar are plain
abbrev pub is_plain : ℕ → ℕ → Bool
is_plain odd place = place % odd == 0

-- a length is a whole note, or a half, a quarter, an eighth .. of one
abbrev pub is_halved : ℕ → ℕ → Bool
is_halved whole len = (whole % len == 0) && is_power_of_two (whole / len)
