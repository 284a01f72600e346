use Rattle.outcome_laws.proofs.Listings.{some_listing}
use Rattle.outcome_laws.proofs.laws.listings_exist.Goals as goal

pub returns : goal.returns
returns c = some_listing
