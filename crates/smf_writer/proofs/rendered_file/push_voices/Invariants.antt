use Rattle.std.proofs.Common.{◌≡◌, ◌++◌, ◌+◌, ◌<◌, ◌^◌, drop, length}
use Rattle.std.specs.Prelude.{All}
use Rattle.std.specs.List.{flat_map}
use Rattle.smf_bytes.specs.Chunk.{track_chunk_bytes}
use Rattle.smf_bytes.specs.Track.{content_bytes}
use Rattle.smf_writer.specs.Strokes.{voices_from}
use Rattle.smf_writer.proofs.rendered_file.push_voices.Given as goal

-- the tracks so far, and after them those of the channels that are left
abbrev pub invariant-channels : goal.invariant-channels
invariant-channels l = record {
  so_far :
      l.bytes.items ++ flat_map (λ track. track_chunk_bytes (content_bytes track l.last)) (voices_from l.resolution l.events (l.index + 1) (drop l.index l.channels))
      ≡ l.initial.bytes.items ++ flat_map (λ track. track_chunk_bytes (content_bytes track l.last)) (voices_from l.resolution l.events 1 l.channels);
  short :
      All (λ track. length (content_bytes track l.last) < 2 ^ 32) (voices_from l.resolution l.events (l.index + 1) (drop l.index l.channels))
      → All (λ track. length (content_bytes track l.last) < 2 ^ 32) (voices_from l.resolution l.events 1 l.channels);
}
