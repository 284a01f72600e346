use Rattle.lily_laws.proofs.Pages.{texts_read}
use Rattle.lily_laws.proofs.laws.texts_are_read_as_their_events.Goals as goal

pub returns : goal.returns
returns c = texts_read
