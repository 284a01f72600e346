use Rattle.session_history.proofs.StudioWords.{one_studio_command}
use Rattle.session_history.proofs.laws.studio_lines_say_one_command.Goals as goal

pub returns : goal.returns
returns c = one_studio_command
