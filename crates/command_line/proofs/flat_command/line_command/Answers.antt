use Rattle.std.proofs.Common.{◌<◌, length, rules}
use Rattle.command_line.proofs.OptionTable.{one_option_more}
use Rattle.command_line.proofs.flat_command.line_command.Goals as goal

pub loop-row-preserved : goal.loop-row-preserved
loop-row-preserved c =
    let there : c.loop-row.row-index < length c.options-row-items.result.now = search rules in
    one_option_more c.options-row-items.result.now c.loop-row.row-index _ _ _ _ there
    c.loop-row.invariant c.option_arg.ensures.rule c.in_ok-command.ensures
