use Rattle.std.proofs.Common.{ap₂}
use Rattle.edit_script.specs.declared.command.Command.TheVariants.{Change}
use Rattle.rhythm_base.specs.declared.edit.Edit.TheVariants.{Move}
use Rattle.edit_script.proofs.WordLemmas.{finds_none}
use Rattle.edit_script.proofs.command_words.move_note.Goals as goal

pub returns-in_err-channel : goal.returns-in_err-channel
returns-in_err-channel c = finds_none _ c.from_residual.result c.from_residual.ensures (λ command says. c.in_err-channel.ensures.words says.0 says.2)

pub returns : goal.returns
returns c = (
  (c.in_ok-channel.channel, c.in_ok-channel.key, c.in_ok-channel.onset, c.in_ok-channel.to),
  ap₂ (λ onset to. Change (Move c.in_ok-channel.channel c.in_ok-channel.key onset to)) c.from.ensures c.from-2.ensures,
  c.in_ok-channel.ensures.words,
)
