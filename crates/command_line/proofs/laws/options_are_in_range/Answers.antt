use Rattle.command_line.proofs.Ranges.{ranged}
use Rattle.command_line.proofs.laws.options_are_in_range.Goals as goal

pub returns : goal.returns
returns c = ranged
