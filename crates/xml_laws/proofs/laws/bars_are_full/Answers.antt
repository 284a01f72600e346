use Rattle.xml_laws.proofs.Texts.{bars_full}
use Rattle.xml_laws.proofs.laws.bars_are_full.Goals as goal

pub returns : goal.returns
returns c = bars_full
