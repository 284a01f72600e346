use Rattle.performance_prepare.proofs.LawsKept.{out_drums}
use Rattle.performance_prepare.proofs.laws.drums_are_out.Goals as goal

pub returns : goal.returns
returns c = out_drums
