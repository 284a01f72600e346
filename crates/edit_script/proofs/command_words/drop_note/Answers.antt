use Rattle.std.proofs.Common.{ap}
use Rattle.edit_script.specs.declared.command.Command.TheVariants.{Change}
use Rattle.rhythm_base.specs.declared.edit.Edit.TheVariants.{Drop}
use Rattle.edit_script.proofs.WordLemmas.{finds_none}
use Rattle.edit_script.proofs.command_words.drop_note.Goals as goal

pub returns-in_err-channel : goal.returns-in_err-channel
returns-in_err-channel c = finds_none _ c.from_residual.result c.from_residual.ensures (λ command says. c.in_err-channel.ensures.words says.0 says.2)

pub returns : goal.returns
returns c = (
  (c.in_ok-channel.channel, c.in_ok-channel.key, c.in_ok-channel.onset),
  ap (λ onset. Change (Drop c.in_ok-channel.channel c.in_ok-channel.key onset)) c.from.ensures,
  c.in_ok-channel.ensures.words,
)
