use Rattle.barline_follow.proofs.OneAnswers.{one_end}
use Rattle.barline_follow.proofs.laws.edits_lead_to_one.Goals as goal

pub returns : goal.returns
returns c = one_end
