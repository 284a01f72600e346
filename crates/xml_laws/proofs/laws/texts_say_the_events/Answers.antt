use Rattle.xml_laws.proofs.Texts.{events_said}
use Rattle.xml_laws.proofs.laws.texts_say_the_events.Goals as goal

pub returns : goal.returns
returns c = events_said
