use Rattle.drill_run.proofs.OneDrill.{drills_one}
use Rattle.drill_run.proofs.laws.drills_are_one.Goals as goal

pub returns : goal.returns
returns c = drills_one
