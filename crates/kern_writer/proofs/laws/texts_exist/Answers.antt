use Rattle.kern_writer.proofs.TextsExist.{texts_exist}
use Rattle.kern_writer.proofs.laws.texts_exist.Goals as goal

pub returns : goal.returns
returns c = texts_exist
