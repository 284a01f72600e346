use Rattle.std.proofs.Common.{◌+◌, ◌++◌, List, drop}
use Rattle.voice_events.specs.declared.event.KernEvent.{KernEvent}
use Rattle.voice_events.specs.Events.{AreVoiceSpans}
use Rattle.voice_events.proofs.events.events_of.Given as goal

abbrev pub invariant-voices : goal.invariant-voices
invariant-voices l =
    (more : List KernEvent) → AreVoiceSpans l.score.resolution l.bars.items (l.number + 1) (drop l.number l.score.voices) more
    → AreVoiceSpans l.score.resolution l.bars.items 1 l.score.voices (l.events.items ++ more)
