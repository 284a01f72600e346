use Rattle.std.proofs.lemmas.Result.{on_ok_weaker}
use Rattle.lily_writer.specs.Staves.{spans_of}
use Rattle.score_words.proofs.ChangeLines.{on_ok_items}
use Rattle.lily_writer.proofs.BarsWritten.{staff_written}
use Rattle.lily_writer.proofs.staff.write_staff.Goals as goal

pub returns : goal.returns
returns c =
    let (lines, are, written) = c.in_ok-write_bars.ensures in
    on_ok_weaker c.extend_from_slice-2.result
    (staff_written c.args.resolution c.args.bars.now c.args.first (spans_of c.args.events.now) lines c.args.text.now.items
    c.extend_from_slice.new.self.items c.write_bars.new.text.items
    c.extend_from_slice-2.new.self.items are c.in_ok-extend_from_slice.ensures.items written)
    (on_ok_items c.extend_from_slice-2.result c.extend_from_slice-2.new.self.items _ _ c.extend_from_slice-2.ensures.items)
