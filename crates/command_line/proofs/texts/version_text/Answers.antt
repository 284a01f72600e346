use Rattle.std.proofs.Common.{refl}
use Rattle.command_line.specs.Texts.{version_text}
use Rattle.command_line.proofs.texts.version_text.Goals as goal

pub returns : goal.returns
unfolding version_text
returns c = refl
