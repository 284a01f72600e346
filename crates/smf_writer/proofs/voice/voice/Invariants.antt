use Rattle.std.proofs.Common.{◌≡◌, take}
use Rattle.smf_writer.specs.Strokes.{spine_events}
use Rattle.smf_writer.proofs.voice.voice.Given as goal

abbrev pub invariant-events : goal.invariant-events
invariant-events l = l.track.items ≡ spine_events l.resolution (take l.event-index l.events) l.spine l.channel
