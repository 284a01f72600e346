use Rattle.std.proofs.Common.{◌≡◌, ◌++◌, map}
use Rattle.voice_events.specs.Events.{span_event}
use Rattle.voice_events.proofs.events.push_spans.Given as goal

abbrev pub invariant-spans : goal.invariant-spans
invariant-spans l =
    (l.events.items ≡ l.initial.events.items ++ map (span_event l.spine) l.yielded)
    × (l.yielded ++ l.span-iterator.rest.items ≡ l.fn.spans.items)
