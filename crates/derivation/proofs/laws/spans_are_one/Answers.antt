use Rattle.derivation.proofs.OneSpans.{one_list}
use Rattle.derivation.proofs.laws.spans_are_one.Goals as goal

pub returns : goal.returns
returns c = one_list
