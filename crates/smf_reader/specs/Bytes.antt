-- Bytes at places. A place counts from the beginning of the file, and the bytes of a chunk are those of the file up to
-- the chunk's end: there a byte that is needed and missing is a fault.
use Rattle.std.specs.Prelude.{ℕ, ◌+◌, nat_lt, if◌then◌else◌, List, length, take, drop, slice_get, Result, Ok, Err}
use Rattle.smf_reader.specs.declared.fault.SmfFault.{SmfFault}
use Rattle.smf_reader.specs.declared.fault.SmfFault.TheVariants.{Truncated, BadData}
use Rattle.smf_reader.specs.Outcome.{◌>>=◌, or_smf_fault}

-- the byte at the place p
abbrev pub byte : List ℕ → ℕ → Result ℕ SmfFault
byte bytes p = or_smf_fault (slice_get bytes p) (Truncated (length bytes))

-- the data byte at the place p: seven bits
unfoldable pub data_byte : List ℕ → ℕ → Result ℕ SmfFault
data_byte bytes p = do
  b ← byte bytes p
  if nat_lt b 128 then Ok b else Err (BadData p)

-- the bytes from the place p on, as many as size
abbrev pub content : List ℕ → ℕ → ℕ → Result (List ℕ) SmfFault
content bytes p size =
    if nat_lt (length bytes) (p + size) then Err (Truncated (length bytes)) else Ok (take size (drop p bytes))
