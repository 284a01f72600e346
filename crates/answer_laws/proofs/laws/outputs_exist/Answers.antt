use Rattle.answer_laws.proofs.Outputs.{some_output}
use Rattle.answer_laws.proofs.laws.outputs_exist.Goals as goal

pub returns : goal.returns
returns c = some_output
