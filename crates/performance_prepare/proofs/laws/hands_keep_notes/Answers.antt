use Rattle.performance_prepare.proofs.HandsKept.{kept_hands}
use Rattle.performance_prepare.proofs.laws.hands_keep_notes.Goals as goal

pub returns : goal.returns
returns c = kept_hands
