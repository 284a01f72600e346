use Rattle.performance_prepare.proofs.LawsKept.{near_time}
use Rattle.performance_prepare.proofs.laws.tempos_keep_time.Goals as goal

pub returns : goal.returns
returns c = near_time
