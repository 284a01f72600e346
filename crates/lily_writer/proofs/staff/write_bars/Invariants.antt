use Rattle.voice_events.specs.Parts.{score_parts}
use Rattle.lily_writer.specs.Staves.{spans_of}
use Rattle.lily_writer.specs.Pieces.{stretches}
use Rattle.lily_writer.proofs.BarsWritten.{HasWrittenBars}
use Rattle.lily_writer.proofs.staff.write_bars.Given as goal

abbrev pub invariant-bars : goal.invariant-bars
invariant-bars l =
    HasWrittenBars l.resolution l.first (stretches l.resolution 0 (score_parts l.resolution l.bars) (spans_of l.events)) l.bars l.bar-index
    l.before l.from l.ahead
    l.fn.text.items l.text.items
