use Rattle.std.proofs.Common.{◌≡◌, ◌++◌, ◌+◌, drop}
use Rattle.smf_writer.specs.Strokes.{grace_strokes, strokes_events}
use Rattle.smf_writer.proofs.event_strokes.push_graces.Given as goal

-- the messages so far, and after them those of the grace chords that are left
abbrev pub invariant-graces : goal.invariant-graces
invariant-graces l = record {
  so_far : l.track.items ++ strokes_events l.channel (grace_strokes l.tick (drop l.keys-index l.graces)) ≡ l.initial.track.items ++ strokes_events l.channel (grace_strokes l.fn.onset l.graces);
  tick : l.tick ≡ l.fn.onset + l.keys-index;
}
