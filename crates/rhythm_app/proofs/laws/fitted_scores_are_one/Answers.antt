use Rattle.rhythm_app.proofs.OneWritten.{scores_with_barline_one}
use Rattle.rhythm_app.proofs.laws.fitted_scores_are_one.Goals as goal

pub returns : goal.returns
returns c = scores_with_barline_one
