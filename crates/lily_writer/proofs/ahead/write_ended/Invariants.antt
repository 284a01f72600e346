use Rattle.std.proofs.Common.{length}
use Rattle.lily_writer.specs.Staves.{spans_of}
use Rattle.lily_writer.specs.Writing.{HasPassed}
use Rattle.lily_writer.proofs.ahead.write_ended.Given as goal

abbrev pub invariant-events : goal.invariant-events
invariant-events l =
    HasPassed l.resolution l.bar.from l.bar.to l.flats l.fn.ahead (record { spans = spans_of l.events; at = l.at; end = l.end })
    l.fn.text.items l.text.items

abbrev pub decreases-events : goal.decreases-events
decreases-events l = length l.events
