use Rattle.notation.proofs.NoteRatios.{notes_in_ratio}
use Rattle.notation.proofs.laws.notes_have_their_ratio.Goals as goal

pub returns : goal.returns
returns c = notes_in_ratio
