use Rattle.performance_prepare.proofs.LawsKept.{nothing_changes}
use Rattle.performance_prepare.proofs.laws.no_options_change_nothing.Goals as goal

pub returns : goal.returns
returns c = nothing_changes
