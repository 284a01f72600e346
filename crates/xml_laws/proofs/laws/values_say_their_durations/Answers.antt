use Rattle.xml_laws.proofs.ValuesSaid.{values_said}
use Rattle.xml_laws.proofs.laws.values_say_their_durations.Goals as goal

pub returns : goal.returns
returns c = values_said
