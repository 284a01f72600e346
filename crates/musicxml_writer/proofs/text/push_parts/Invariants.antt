use Rattle.std.proofs.Common.{take}
use Rattle.musicxml_writer.proofs.PartsWritten.{HaveParts}
use Rattle.musicxml_writer.proofs.text.push_parts.Given as goal

abbrev pub invariant-voices : goal.invariant-voices
invariant-voices l = HaveParts l.resolution l.bars (take l.index l.voices) l.initial.text.items l.text.items
