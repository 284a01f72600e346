use Rattle.notes_writer.specs.NotesText.{bar_record}
use Rattle.notes_writer.proofs.Numbered.{pieces_more}
use Rattle.notes_writer.proofs.notes_text.push_bars.Goals as goal

pub bars-preserved : goal.bars-preserved
bars-preserved c = pieces_more bar_record c.args.bars.now c.bars.number _ _ _ _ c.bars-test.true c.bars.invariant c.in_ok-push_bar.ensures
