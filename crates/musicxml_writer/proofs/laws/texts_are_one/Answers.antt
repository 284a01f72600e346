use Rattle.musicxml_writer.proofs.OneText.{texts_one}
use Rattle.musicxml_writer.proofs.laws.texts_are_one.Goals as goal

pub returns : goal.returns
returns c = texts_one
