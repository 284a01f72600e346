use Rattle.bar_pool.proofs.Lawful.{draws_keep}
use Rattle.bar_pool.proofs.laws.draws_keep_their_law.Goals as goal

pub returns : goal.returns
returns c = draws_keep
