use Rattle.bar_alternatives.proofs.VoiceBars.{alternative_looked, looked_alternative}
use Rattle.bar_alternatives.proofs.laws.totals_are_least.Goals as goal

pub returns : goal.returns
returns c = λ g bars cs tables i bar a voice all at. (looked_alternative g cs bars tables voice all i bar at a, alternative_looked g cs bars tables voice all i bar at a)
