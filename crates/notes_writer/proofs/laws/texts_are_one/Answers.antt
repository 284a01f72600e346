use Rattle.notes_writer.proofs.OneOrder.{one_text}
use Rattle.notes_writer.proofs.laws.texts_are_one.Goals as goal

pub returns : goal.returns
returns c = one_text
