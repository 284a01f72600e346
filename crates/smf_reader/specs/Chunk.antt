-- Chunks (Standard MIDI Files 1.0, "Chunks"): four letters for the type, the length of the content in four bytes, and the
-- content. After the header a chunk of another type than MTrk is skipped.
use Rattle.std.specs.Prelude.{ℕ, zero, suc, ◌+◌, nat_eq, nat_lt, if◌then◌else◌, List, [], ◌∷◌, length, take, drop, codes, Result, Ok, Err}
use Rattle.std.specs.List.{starts_with}
use Rattle.byteorder.specs.Endian.{big_number}
use Rattle.smf_reader.specs.declared.fault.SmfFault.{SmfFault}
use Rattle.smf_reader.specs.declared.fault.SmfFault.TheVariants.{Truncated}
use Rattle.smf_reader.specs.declared.chunk.Chunk.{Chunk}
use Rattle.smf_reader.specs.Outcome.{◌>>=◌}
use Rattle.smf_reader.specs.Played.{Track}
use Rattle.smf_reader.specs.Track.{track}

-- the number in the n bytes from the place p on, the most significant first
abbrev pub number : ℕ → List ℕ → ℕ → ℕ
number n bytes p = big_number n (drop p bytes)

-- the chunk at the place p
unfoldable pub chunk : List ℕ → ℕ → Result Chunk SmfFault
chunk bytes p =
    if nat_lt (length bytes) (p + 8) then Err (Truncated (length bytes))
    else (if nat_lt (length bytes) (p + 8 + number 4 bytes (p + 4)) then Err (Truncated (length bytes))
    else Ok (record {
      is_track = starts_with nat_eq (drop p bytes) (codes "MTrk");
      begin = p + 8;
      end = p + 8 + number 4 bytes (p + 4);
    }))

-- so many tracks in the chunks from the place p on, at most n chunks
unfoldable pub tracks : ℕ → ℕ → List ℕ → ℕ → Result (List Track) SmfFault
tracks n zero bytes p = Ok []
tracks zero (suc count) bytes p = Err (Truncated (length bytes))
tracks (suc n) (suc count) bytes p = do
  c ← chunk bytes p
  if c.is_track then (do
    first ← track (take c.end bytes) c.begin
    others ← tracks n count bytes c.end
    Ok (first ∷ others)) else tracks n (suc count) bytes c.end
