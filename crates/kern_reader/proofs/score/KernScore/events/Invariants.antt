use Rattle.std.proofs.Common.{◌+◌, ◌++◌, List, drop}
use Rattle.voice_events.specs.declared.event.KernEvent.{KernEvent}
use Rattle.kern_reader.specs.Events.{AreEventsFrom}
use Rattle.kern_reader.proofs.score.KernScore.events.Given as goal

abbrev pub invariant-columns : goal.invariant-columns
invariant-columns l =
    (more : List KernEvent) → AreEventsFrom l.self.grid (l.number + 1) (drop l.number l.self.columns) more → AreEventsFrom l.self.grid 1 l.self.columns (l.events.items ++ more)
