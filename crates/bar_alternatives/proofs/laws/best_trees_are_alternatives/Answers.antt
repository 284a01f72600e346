use Rattle.bar_alternatives.proofs.VoiceBars.{best_alternatives}
use Rattle.bar_alternatives.proofs.laws.best_trees_are_alternatives.Goals as goal

pub returns : goal.returns
returns c = λ g bars cs tables i count bar list voice all at best. best_alternatives g cs bars tables voice all i bar at count list best
