use Rattle.notation_laws.proofs.WrittenNotes.{notes_can_be_written}
use Rattle.notation_laws.proofs.laws.notes_can_be_written.Goals as goal

pub returns : goal.returns
returns c = notes_can_be_written
