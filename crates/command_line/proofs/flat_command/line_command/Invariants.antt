use Rattle.std.proofs.Common.{◌≡◌}
use Rattle.clap.specs.Words.{app_of}
use Rattle.command_line.specs.FlatCommand.{app_of_rules}
use Rattle.command_line.proofs.OptionTable.{rules_before}
use Rattle.command_line.proofs.flat_command.line_command.Given as goal

abbrev pub invariant-loop-row : goal.invariant-loop-row
invariant-loop-row l = app_of l.command ≡ app_of_rules (rules_before l.row-items l.row-index)
