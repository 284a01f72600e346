use Rattle.notation_laws.proofs.FullBars.{bars_in_full}
use Rattle.notation_laws.proofs.laws.bars_are_heard_in_full.Goals as goal

pub returns : goal.returns
returns c = bars_in_full
