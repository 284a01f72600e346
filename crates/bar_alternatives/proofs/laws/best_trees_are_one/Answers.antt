use Rattle.bar_alternatives.proofs.Listed.{one_list}
use Rattle.bar_alternatives.proofs.laws.best_trees_are_one.Goals as goal

pub returns : goal.returns
returns c = one_list
