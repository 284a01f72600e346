use Rattle.table_laws.proofs.ReadyCells.{ready_voice}
use Rattle.table_laws.proofs.laws.voices_are_ready.Goals as goal

pub returns : goal.returns
returns c = ready_voice
