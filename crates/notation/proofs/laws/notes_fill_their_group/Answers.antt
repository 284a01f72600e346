use Rattle.notation.proofs.FilledGroups.{group_filled}
use Rattle.notation.proofs.laws.notes_fill_their_group.Goals as goal

pub returns : goal.returns
returns c = group_filled
