use Rattle.tree_laws.proofs.Attachments.{onsets_attached}
use Rattle.tree_laws.proofs.laws.onsets_are_attached.Goals as goal

pub returns : goal.returns
returns c = onsets_attached
