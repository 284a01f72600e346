use Rattle.std.proofs.Common.{◌≡◌}
use Rattle.best_trees.specs.Firsts.{AreKeptKeys}
use Rattle.best_trees.specs.Grids.{joined_below}
use Rattle.best_trees.proofs.grid.offer_at.Given as goal

abbrev pub invariant-counts : goal.invariant-counts
invariant-counts l = record {
  kept : AreKeptKeys l.count l.best;
  so_far : l.best ≡ joined_below l.count (l.sides.cost, l.sides.top.now) l.sides.left.now l.sides.right.now l.from l.to l.initial.best l.number;
}
