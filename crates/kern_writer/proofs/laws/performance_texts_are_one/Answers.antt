use Rattle.kern_writer.proofs.OneWritten.{performance_texts_one}
use Rattle.kern_writer.proofs.laws.performance_texts_are_one.Goals as goal

pub returns : goal.returns
returns c = performance_texts_one
