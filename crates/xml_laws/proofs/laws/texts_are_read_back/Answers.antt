use Rattle.xml_laws.proofs.Texts.{texts_read}
use Rattle.xml_laws.proofs.laws.texts_are_read_back.Goals as goal

pub returns : goal.returns
returns c = texts_read
