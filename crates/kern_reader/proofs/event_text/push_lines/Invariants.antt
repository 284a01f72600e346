use Rattle.std.proofs.Common.{◌≡◌, ◌++◌, take}
use Rattle.kern_reader.specs.EventText.{events_text}
use Rattle.kern_reader.proofs.event_text.push_lines.Given as goal

abbrev pub invariant-events : goal.invariant-events
invariant-events l = l.text.items ≡ l.initial.text.items ++ events_text (take l.event-index l.events)
