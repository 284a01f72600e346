use Rattle.xml_laws.proofs.MeasuresFull.{measures_full}
use Rattle.xml_laws.proofs.laws.measures_are_full.Goals as goal

pub returns : goal.returns
returns c = measures_full
