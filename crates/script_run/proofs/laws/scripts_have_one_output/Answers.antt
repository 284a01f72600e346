use Rattle.script_run.proofs.OneBeginnings.{one_beginning}
use Rattle.script_run.proofs.OneOutputs.{one_output}
use Rattle.script_run.proofs.laws.scripts_have_one_output.Goals as goal

pub returns : goal.returns
returns c = record { one = one_output; beginning = one_beginning }
