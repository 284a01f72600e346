use Rattle.std.proofs.Common.{ap}
use Rattle.edit_script.specs.declared.command.Command.TheVariants.{Change}
use Rattle.rhythm_base.specs.declared.edit.Edit.TheVariants.{Barline}
use Rattle.edit_script.proofs.WordLemmas.{finds_none}
use Rattle.edit_script.proofs.command_words.barline.Goals as goal

pub returns-in_err-bar : goal.returns-in_err-bar
returns-in_err-bar c = finds_none _ c.from_residual.result c.from_residual.ensures (λ command says. c.in_err-bar.ensures.words says.0 says.2)

pub returns : goal.returns
returns c =
    ((c.in_ok-bar.bar, c.in_ok-bar.tick), ap (λ tick. Change (Barline c.in_ok-bar.bar tick)) c.from.ensures, c.in_ok-bar.ensures.words)
