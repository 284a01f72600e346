use Rattle.performance_prepare.proofs.Strummed.{notes_kept}
use Rattle.performance_prepare.proofs.laws.strums_keep_notes.Goals as goal

pub returns : goal.returns
returns c = notes_kept
