use Rattle.std.proofs.Common.{◌≡◌, ◌<◌, ◌≤◌, ℕ, [], ◌/◌, ◌%◌, get_or, length}
use Rattle.best_trees.specs.Grids.{joined_row}
use Rattle.best_trees.proofs.grid.Grid.offer_joined.Given as goal

abbrev pub invariant-pairs : goal.invariant-pairs
invariant-pairs l = record {
  long : length l.self-inside.rankings.items ≡ 25;
  done : (i : ℕ) → i < l.pair → get_or l.self-inside.rankings.items i [] ≡ joined_row l.count (l.sides.cost, l.sides.top.now) l.sides.left.now l.sides.right.now (i / 5) (i % 5) (get_or l.initial.self-inside.rankings.items i []);
  rest : (i : ℕ) → l.pair ≤ i → get_or l.self-inside.rankings.items i [] ≡ get_or l.initial.self-inside.rankings.items i [];
}
