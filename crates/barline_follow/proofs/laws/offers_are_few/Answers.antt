use Rattle.barline_follow.proofs.FewTables.{few_offers}
use Rattle.barline_follow.proofs.laws.offers_are_few.Goals as goal

pub returns : goal.returns
returns c = few_offers
