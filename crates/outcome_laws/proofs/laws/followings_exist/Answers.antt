use Rattle.outcome_laws.proofs.Followings.{some_following}
use Rattle.outcome_laws.proofs.laws.followings_exist.Goals as goal

pub returns : goal.returns
returns c = some_following
