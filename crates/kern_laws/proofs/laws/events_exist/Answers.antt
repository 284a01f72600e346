use Rattle.kern_laws.proofs.EventsExist.{events_exist}
use Rattle.kern_laws.proofs.laws.events_exist.Goals as goal

pub returns : goal.returns
returns c = events_exist
