use Rattle.kern_laws.proofs.OneList.{one_list}
use Rattle.kern_laws.proofs.laws.events_are_one.Goals as goal

pub returns : goal.returns
returns c = one_list
