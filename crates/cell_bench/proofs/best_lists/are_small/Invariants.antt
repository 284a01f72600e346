use Rattle.std.proofs.Common.{◌≡◌, ◌<◌, ◌^◌, ℕ, Some}
use Rattle.bar_alternatives.specs.BestTrees.{cost_at}
use Rattle.cell_bench.proofs.best_lists.are_small.Given as goal

abbrev pub invariant-loop-cost : goal.invariant-loop-cost
invariant-loop-cost l = (n c : ℕ) → n < l.cost-index → cost_at l.costs n ≡ Some c → c < 2 ^ 60
