use Rattle.std.proofs.Common.{◌≤◌, ◌-◌, length}
use Rattle.smf_reader.specs.Track.{track}
use Rattle.smf_reader.proofs.TrackSteps.{ComesTo}
use Rattle.smf_reader.proofs.track.read_track.Given as goal

-- the events so far, with those from the place on, are those of the track
abbrev pub invariant-events : goal.invariant-events
invariant-events l = record {
  so_far : ComesTo l.bytes l.events.items l.last l.running l.place (track l.bytes l.at);
  within : l.place ≤ length l.bytes;
  tick : l.last ≤ 1000000000;
}

abbrev pub decreases-events : goal.decreases-events
decreases-events l = length l.bytes - l.place
