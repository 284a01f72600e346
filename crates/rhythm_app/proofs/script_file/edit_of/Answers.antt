use Rattle.std.proofs.Common.{refl}
use Rattle.edit_script.specs.declared.command.Command.TheVariants.{Change}
use Rattle.rhythm_app.proofs.script_file.edit_of.Goals as goal

pub returns-in-Err-BadLine-clause-none : goal.returns-in-Err-BadLine-clause-none
returns-in-Err-BadLine-clause-none c = λ e edit says. c.in-Err-BadLine.ensures.bad c.in-Err-BadLine.field-0-is (Change edit) says.1
