use Rattle.command_line.proofs.Numbers.{as_in_scripts}
use Rattle.command_line.proofs.laws.numbers_are_as_in_scripts.Goals as goal

pub returns : goal.returns
returns c = as_in_scripts
