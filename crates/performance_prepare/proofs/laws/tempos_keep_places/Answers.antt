use Rattle.performance_prepare.proofs.LawsKept.{placed_by_tempo}
use Rattle.performance_prepare.proofs.laws.tempos_keep_places.Goals as goal

pub returns : goal.returns
returns c = placed_by_tempo
