use Rattle.std.specs.Prelude.{codes}
use Rattle.lily_writer.proofs.StavesWritten.{HasWrittenStaves}
use Rattle.lily_writer.proofs.page.write_lily.Given as goal

abbrev pub invariant-staves : goal.invariant-staves
invariant-staves l = HasWrittenStaves l.resolution l.bars l.voices l.events l.voice l.later (codes "\\version \"2.24.0\"\n\\score {\n<<\n")
    l.text.items
