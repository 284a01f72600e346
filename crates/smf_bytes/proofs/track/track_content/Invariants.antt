use Rattle.std.proofs.Common.{◌≡◌, map, take}
use Rattle.smf_bytes.specs.Track.{bytes_from, timed_message}
use Rattle.smf_bytes.proofs.Messages.{last_tick}
use Rattle.smf_bytes.proofs.track.track_content.Given as goal

-- the bytes of the events so far, and the tick of the last of them
abbrev pub invariant-events : goal.invariant-events
invariant-events l = record {
  so_far : l.content.items ≡ bytes_from 0 (map timed_message (take l.event-index l.events));
  tick : l.tick ≡ last_tick 0 (take l.event-index l.events);
}
