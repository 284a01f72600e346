use Rattle.notation.proofs.OneGrouping.{groups_one}
use Rattle.notation.proofs.laws.voice_groups_are_one.Goals as goal

pub returns : goal.returns
returns c = groups_one
