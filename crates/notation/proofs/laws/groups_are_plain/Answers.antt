use Rattle.notation.proofs.PlainGroups.{groups_plain}
use Rattle.notation.proofs.laws.groups_are_plain.Goals as goal

pub returns : goal.returns
returns c = groups_plain
