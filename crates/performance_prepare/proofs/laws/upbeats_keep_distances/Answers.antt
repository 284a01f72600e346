use Rattle.performance_prepare.proofs.LawsKept.{moved_by_upbeat}
use Rattle.performance_prepare.proofs.laws.upbeats_keep_distances.Goals as goal

pub returns : goal.returns
returns c = moved_by_upbeat
