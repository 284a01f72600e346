use Rattle.kern_writer.proofs.OneText.{texts_one}
use Rattle.kern_writer.proofs.laws.texts_are_one.Goals as goal

pub returns : goal.returns
returns c = texts_one
