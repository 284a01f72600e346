use Rattle.std.proofs.Common.{◌≤◌, ◌-◌, length}
use Rattle.smf_reader.specs.Chunk.{tracks}
use Rattle.smf_reader.proofs.ChunkSteps.{ComesTo}
use Rattle.smf_reader.proofs.chunk.read_tracks.Given as goal

-- the tracks so far, with those from the place on, are those of the file
abbrev pub invariant-chunks : goal.invariant-chunks
invariant-chunks l = record {
  so_far : ComesTo l.bytes l.tracks.items l.left l.place (tracks (length l.bytes) l.count l.bytes l.at);
  within : l.place ≤ length l.bytes;
}

abbrev pub decreases-chunks : goal.decreases-chunks
decreases-chunks l = length l.bytes - l.place
