use Rattle.barline_follow.proofs.OneAnswers.{one_offers}
use Rattle.barline_follow.proofs.laws.offers_are_one.Goals as goal

pub returns : goal.returns
returns c = one_offers
