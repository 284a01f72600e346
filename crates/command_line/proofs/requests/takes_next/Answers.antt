use Rattle.std.proofs.Common.{◌∙◌, ap, sym}
use Rattle.std.specs.List.{list_any}
use Rattle.rhythm_base.proofs.Positions.{list_any-map}
use Rattle.command_line.specs.OptionTable.{shown_row}
use Rattle.command_line.specs.Requests.{is_taking}
use Rattle.command_line.proofs.requests.takes_next.Goals as goal

pub returns : goal.returns
returns c =
    c.any_is_taking.ensures
    ∙ sym (list_any-map (is_taking c.args.word.now) shown_row c.options.result.now)
    ∙ ap (list_any (is_taking c.args.word.now)) c.options.ensures
