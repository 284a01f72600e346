use Rattle.kern_laws.proofs.ReadBack.{scores_read_back}
use Rattle.kern_laws.proofs.laws.scores_read_back.Goals as goal

pub returns : goal.returns
returns c = scores_read_back
