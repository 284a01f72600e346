use Rattle.musicxml_writer.proofs.OneText.{some_text}
use Rattle.musicxml_writer.proofs.laws.texts_exist.Goals as goal

pub returns : goal.returns
returns c = some_text
