use Rattle.std.proofs.Common.{◌≡◌, take}
use Rattle.std.specs.List.{flat_map}
use Rattle.rhythm_gen.specs.Track.{events_of}
use Rattle.smf_bytes.specs.Track.{bytes_from}
use Rattle.rhythm_gen.proofs.Tracks.{last_end}
use Rattle.rhythm_gen.proofs.track.track_content.Given as goal

-- the bytes of the notes so far, and the tick at which the last of them ends
abbrev pub invariant-loop-note : goal.invariant-loop-note
invariant-loop-note l = record {
  so_far : l.content.items ≡ bytes_from 0 (flat_map events_of (take l.note-index l.notes));
  tick : l.tick ≡ last_end 0 (take l.note-index l.notes);
}
