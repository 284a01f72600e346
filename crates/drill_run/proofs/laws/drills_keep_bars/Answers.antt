use Rattle.drill_run.proofs.KeptBars.{drills_kept}
use Rattle.drill_run.proofs.laws.drills_keep_bars.Goals as goal

pub returns : goal.returns
returns c = drills_kept
