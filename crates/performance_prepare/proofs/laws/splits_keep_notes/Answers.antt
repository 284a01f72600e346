use Rattle.performance_prepare.proofs.LawsKept.{kept_by_split}
use Rattle.performance_prepare.proofs.laws.splits_keep_notes.Goals as goal

pub returns : goal.returns
returns c = kept_by_split
