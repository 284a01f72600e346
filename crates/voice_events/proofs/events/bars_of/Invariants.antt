use Rattle.std.proofs.Common.{take}
use Rattle.voice_events.specs.Events.{HaveSignatures}
use Rattle.voice_events.proofs.events.bars_of.Given as goal

abbrev pub invariant-bars : goal.invariant-bars
invariant-bars l = HaveSignatures (take l.bar-index l.bars) l.all.items
