use Rattle.kern_reader.proofs.ScoreLemmas.{well_score}
use Rattle.kern_laws.proofs.laws.scores_are_in_range.Goals as goal

pub returns : goal.returns
returns c = well_score
