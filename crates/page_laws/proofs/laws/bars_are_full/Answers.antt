use Rattle.page_laws.proofs.FullBars.{full_bars}
use Rattle.page_laws.proofs.laws.bars_are_full.Goals as goal

pub returns : goal.returns
returns c = full_bars
