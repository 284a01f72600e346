-- The header (Standard MIDI Files 1.0, "Header Chunks"): format, number of tracks and division, two bytes each. Bytes
-- after these are skipped. A file of format 0 may have any number of tracks.
use Rattle.std.specs.Prelude.{ℕ, ◌+◌, ◌==◌, nat_eq, nat_lt, nat_le, not, if◌then◌else◌, List, length, codes, Result, Ok, Err}
use Rattle.std.specs.List.{starts_with}
use Rattle.smf_reader.specs.declared.fault.SmfFault.{SmfFault}
use Rattle.smf_reader.specs.declared.fault.SmfFault.TheVariants.{NotSmf, Format, Smpte, ZeroDivision, Truncated}
use Rattle.smf_reader.specs.declared.header.Header.{Header}
use Rattle.smf_reader.specs.Outcome.{◌>>=◌}
use Rattle.smf_reader.specs.Chunk.{number}

-- the length of the header's content
unfoldable pub header_size : List ℕ → Result ℕ SmfFault
header_size bytes =
    if not (starts_with nat_eq bytes (codes "MThd")) then Err NotSmf
    else (if nat_lt (length bytes) 8 then Err (Truncated (length bytes))
    else (if nat_lt (number 4 bytes 4) 6 then Err NotSmf
    else (if nat_lt (length bytes) (8 + number 4 bytes 4) then Err (Truncated (length bytes))
    else Ok (number 4 bytes 4))))

-- format 0 or 1, and a division by ticks of a quarter note, not by frames of a film, which sets the top bit
unfoldable pub header : List ℕ → Result Header SmfFault
header bytes = do
  size ← header_size bytes
  if nat_lt 1 (number 2 bytes 8) then Err (Format (number 2 bytes 8))
      else (if nat_le 32768 (number 2 bytes 12) then Err Smpte
      else (if number 2 bytes 12 == 0 then Err ZeroDivision
      else Ok (record { tracks = number 2 bytes 10; division = number 2 bytes 12; end = 8 + size })))
