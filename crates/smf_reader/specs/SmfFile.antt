-- A Standard MIDI File of format 0 or 1: a header, and chunks up to the last of the tracks that it counts. What stands
-- after them is not read.
use Rattle.std.specs.Prelude.{ℕ, List, length, Result, Ok}
use Rattle.smf_reader.specs.declared.fault.SmfFault.{SmfFault}
use Rattle.smf_reader.specs.Outcome.{◌>>=◌}
use Rattle.smf_reader.specs.Played.{Smf}
use Rattle.smf_reader.specs.Chunk.{tracks}
use Rattle.smf_reader.specs.Header.{header}

-- what the file says, or the fault that stands in it. It has more bytes than chunks
unfoldable pub smf : List ℕ → Result Smf SmfFault
smf bytes = do
  head ← header bytes
  played ← tracks (length bytes) head.tracks bytes head.end
  Ok (record { division = head.division; tracks = played })
