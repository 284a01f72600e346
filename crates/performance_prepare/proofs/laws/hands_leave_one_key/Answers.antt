use Rattle.performance_prepare.proofs.OneKey.{one_key}
use Rattle.performance_prepare.proofs.laws.hands_leave_one_key.Goals as goal

pub returns : goal.returns
returns c = one_key
