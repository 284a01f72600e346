use Rattle.derivation.proofs.FilledBars.{score_filled}
use Rattle.derivation.proofs.laws.well_sounded_fill_the_score.Goals as goal

pub returns : goal.returns
returns c = score_filled
