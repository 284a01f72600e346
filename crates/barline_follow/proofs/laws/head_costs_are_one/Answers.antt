use Rattle.barline_follow.proofs.OneBest.{one_head_cost}
use Rattle.barline_follow.proofs.laws.head_costs_are_one.Goals as goal

pub returns : goal.returns
returns c = one_head_cost
