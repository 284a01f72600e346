-- Variable-length quantities (Standard MIDI Files 1.0, "Conventions"): seven bits a byte, the most significant first, and
-- the high bit on each byte but the last. There are four bytes at most. A longer spelling than need be is accepted.
use Rattle.std.specs.Prelude.{ℕ, ◌+◌, ◌*◌, ◌%◌, nat_lt, if◌then◌else◌, List, length, take, drop, fold, position, Option, Result, Ok}
use Rattle.smf_reader.specs.declared.fault.SmfFault.{SmfFault}
use Rattle.smf_reader.specs.declared.fault.SmfFault.TheVariants.{Truncated, BadQuantity}
use Rattle.smf_reader.specs.Outcome.{◌>>=◌, or_smf_fault}

-- the number in the low seven bits of each byte, the most significant first
abbrev pub seven_bits : List ℕ → ℕ
seven_bits bytes = fold (λ n b. n * 128 + b % 128) 0 bytes

-- the first of the four bytes at the front that has no high bit, by its place after the front
abbrev pub last_place : List ℕ → Option ℕ
last_place front = position (λ b. nat_lt b 128) (take 4 front)

-- no byte without the high bit: the bytes end before the fourth byte, or the fourth byte has it
abbrev pub endless : List ℕ → ℕ → SmfFault
endless bytes p = if nat_lt (length bytes) (p + 4) then Truncated (length bytes) else BadQuantity (p + 3)

-- the quantity at the place p, and the place after it
unfoldable pub quantity : List ℕ → ℕ → Result (ℕ × ℕ) SmfFault
quantity bytes p = do
  last ← or_smf_fault (last_place (drop p bytes)) (endless bytes p)
  Ok (seven_bits (take (last + 1) (drop p bytes)), p + last + 1)
