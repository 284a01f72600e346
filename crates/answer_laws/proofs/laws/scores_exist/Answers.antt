use Rattle.answer_laws.proofs.Scores.{some_score, some_written_score}
use Rattle.answer_laws.proofs.laws.scores_exist.Goals as goal

pub returns : goal.returns
returns c = record { score = some_score; written = some_written_score }
