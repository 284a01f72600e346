use Rattle.script_writer.proofs.ReadBack.{one_text}
use Rattle.script_writer.proofs.laws.texts_are_of_one_list.Goals as goal

pub returns : goal.returns
returns c = one_text
