use Rattle.notation.proofs.GroupingsExist.{groups_exist}
use Rattle.notation.proofs.laws.voice_groups_exist.Goals as goal

pub returns : goal.returns
returns c = groups_exist
