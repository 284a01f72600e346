use Rattle.rule_counts.proofs.Adding.{add_up}
use Rattle.rule_counts.proofs.laws.counts_add_up.Goals as goal

pub returns : goal.returns
returns c = add_up
