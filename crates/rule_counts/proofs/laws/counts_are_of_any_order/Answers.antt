use Rattle.rule_counts.proofs.Adding.{of_any_order}
use Rattle.rule_counts.proofs.laws.counts_are_of_any_order.Goals as goal

pub returns : goal.returns
returns c = of_any_order
