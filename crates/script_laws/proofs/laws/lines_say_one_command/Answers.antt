use Rattle.edit_script.proofs.CommandWords.{one_command}
use Rattle.script_laws.proofs.laws.lines_say_one_command.Goals as goal

pub returns : goal.returns
returns c = one_command
