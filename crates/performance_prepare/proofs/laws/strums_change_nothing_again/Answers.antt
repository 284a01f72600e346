use Rattle.performance_prepare.proofs.StruckAgain.{again_nothing}
use Rattle.performance_prepare.proofs.laws.strums_change_nothing_again.Goals as goal

pub returns : goal.returns
returns c = again_nothing
