use Rattle.page_writer.proofs.StavesWritten.{AreStavesWritten}
use Rattle.page_writer.proofs.page.write_staves.Given as goal

abbrev pub invariant-voices : goal.invariant-voices
invariant-voices l = AreStavesWritten l.resolution l.bars l.most.items l.channels l.voices l.number l.initial.text.items l.text.items
