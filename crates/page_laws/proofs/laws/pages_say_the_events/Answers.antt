use Rattle.page_laws.proofs.PageEvents.{events_said}
use Rattle.page_laws.proofs.laws.pages_say_the_events.Goals as goal

pub returns : goal.returns
returns c = events_said
