use Rattle.note_list.proofs.OneList.{are_one}
use Rattle.note_list.proofs.laws.notes_are_one.Goals as goal

pub returns : goal.returns
returns c = are_one
