-- What a read of a whole input leaves where it ends in an error.
use Rattle.std.specs.Prelude.{◌≡◌, ℕ, ◌+◌, ◌≤◌, List, length, Option}
use Rattle.std.specs.Io.KnownBytes.{Consumes}
use Rattle.rhythm_ports.specs.declared.read_end.ReadEnd.{ReadEnd}
use Rattle.rhythm_ports.specs.declared.read_end.ReadEnd.TheVariants.{Fault, TooLong, Memory}

-- a first part of the rest was read, with a length as P says
abbrev pub ReadsPart : Option (List ℕ) → Option (List ℕ) → (ℕ → Type 0) → Type 0
ReadsPart old new P = (bytes : List ℕ) × P (length bytes) × Consumes old new bytes

-- one byte more than the limit was read exactly where the input is too long
abbrev pub ReadsBefore : ReadEnd → ℕ → Option (List ℕ) → Option (List ℕ) → Type 0
ReadsBefore Fault limit old new = ReadsPart old new (λ count. count ≤ limit)
ReadsBefore (TooLong read) limit old new = (read ≡ limit + 1) × ReadsPart old new (λ count. count ≡ read)
ReadsBefore Memory limit old new = ReadsPart old new (λ count. count ≤ limit)
