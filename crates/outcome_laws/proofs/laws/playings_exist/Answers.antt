use Rattle.outcome_laws.proofs.Playings.{some_playing}
use Rattle.outcome_laws.proofs.laws.playings_exist.Goals as goal

pub returns : goal.returns
returns c = λ o f range played. some_playing o range f played
