use Rattle.voices.proofs.OneBreaks.{one_last, one_next}
use Rattle.voices.proofs.laws.breaks_are_one.Goals as goal

pub returns : goal.returns
returns c = record { last = one_last; next = one_next }
