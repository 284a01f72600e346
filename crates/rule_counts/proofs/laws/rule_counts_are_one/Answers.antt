use Rattle.rule_counts.proofs.Adding.{are_one}
use Rattle.rule_counts.proofs.laws.rule_counts_are_one.Goals as goal

pub returns : goal.returns
returns c = are_one
