use Rattle.std.proofs.Common.{◌≡◌, ℕ, [], get_or, length}
use Rattle.best_trees.proofs.grid.Grid.none.Given as goal

abbrev pub invariant-pairs : goal.invariant-pairs
invariant-pairs l = record {
  long : length l.rankings.items ≡ l._pair;
  bare : (i : ℕ) → get_or l.rankings.items i [] ≡ [];
}
