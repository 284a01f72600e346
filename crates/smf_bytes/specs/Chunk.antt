-- Chunks, and a file of them.
use Rattle.std.specs.Prelude.{ℕ, List, ◌++◌, codes, length}
use Rattle.std.specs.Int.{to_be_bytes, w16, w32}
use Rattle.std.specs.List.{flat_map}

-- a chunk: its name, its length and its content
abbrev pub chunk_bytes : List ℕ → List ℕ → List ℕ
chunk_bytes name content = name ++ (to_be_bytes w32 (length content) ++ content)

-- the header of a file of format 1: how many tracks it has, and how many ticks a quarter note
abbrev pub header_bytes : ℕ → ℕ → List ℕ
header_bytes tracks division = chunk_bytes (codes "MThd") (to_be_bytes w16 1 ++ (to_be_bytes w16 tracks ++ to_be_bytes w16 division))

abbrev pub track_chunk_bytes : List ℕ → List ℕ
track_chunk_bytes content = chunk_bytes (codes "MTrk") content

-- the file of tracks with these contents
abbrev pub file_bytes : ℕ → List (List ℕ) → List ℕ
file_bytes division contents = header_bytes (length contents) division ++ flat_map track_chunk_bytes contents
