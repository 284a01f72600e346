use Rattle.notes_writer.proofs.ToldAlike.{told_alike}
use Rattle.notes_writer.proofs.laws.texts_tell_performances.Goals as goal

pub returns : goal.returns
returns c = told_alike
