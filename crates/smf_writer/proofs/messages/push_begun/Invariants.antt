use Rattle.std.proofs.Common.{◌≡◌, ◌++◌, map, take}
use Rattle.std.specs.List.{flat_map}
use Rattle.smf_writer.specs.NoteMessages.{event_of}
use Rattle.smf_writer.specs.Strokes.{begun_messages}
use Rattle.smf_writer.proofs.messages.push_begun.Given as goal

abbrev pub invariant-notes : goal.invariant-notes
invariant-notes l = l.events.items ≡ l.initial.events.items ++ map event_of (flat_map begun_messages (take l.note-index l.notes))
