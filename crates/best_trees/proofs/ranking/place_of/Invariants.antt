use Rattle.std.proofs.Common.{◌++◌, ◌≤◌, drop, length}
use Rattle.std.specs.Prelude.{All}
use Rattle.best_trees.specs.Firsts.{IsBefore}
use Rattle.best_trees.proofs.ranking.place_of.Given as goal

abbrev pub invariant-back : goal.invariant-back
invariant-back l = record {
  within : l.place ≤ length l.entries;
  high : All (IsBefore (l.cost, (l.top ++ l.first) ++ l.last)) (drop l.place l.entries);
}

abbrev pub decreases-back : goal.decreases-back
decreases-back l = l.place
