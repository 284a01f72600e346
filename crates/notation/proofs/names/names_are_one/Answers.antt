use Rattle.notation.proofs.OneName.{names_one}
use Rattle.notation.proofs.names.names_are_one.Goals as goal

pub returns : goal.returns
returns c = names_one
