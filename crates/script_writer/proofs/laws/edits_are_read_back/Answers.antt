use Rattle.script_writer.proofs.ReadBack.{read_back}
use Rattle.script_writer.proofs.laws.edits_are_read_back.Goals as goal

pub returns : goal.returns
returns c = read_back
