use Rattle.std.proofs.Common.{refl}
use Rattle.command_line.specs.Texts.{help_text}
use Rattle.command_line.proofs.texts.help_text.Goals as goal

pub returns-clause-text : goal.returns-clause-text
unfolding help_text
returns-clause-text c = refl
