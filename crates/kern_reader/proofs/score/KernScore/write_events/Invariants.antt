use Rattle.std.proofs.Common.{◌≡◌, ◌+◌, ◌++◌, List, drop}
use Rattle.voice_events.specs.declared.event.KernEvent.{KernEvent}
use Rattle.kern_reader.specs.EventText.{events_text}
use Rattle.kern_reader.specs.Events.{AreEventsFrom}
use Rattle.kern_reader.proofs.score.KernScore.write_events.Given as goal

abbrev pub invariant-columns : goal.invariant-columns
invariant-columns l =
    (events : List KernEvent) × (l.text.items ≡ events_text events)
    × ((more : List KernEvent) → AreEventsFrom l.self.grid (l.number + 1) (drop l.number l.self.columns) more → AreEventsFrom l.self.grid 1 l.self.columns (events ++ more))
